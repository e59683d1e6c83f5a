-- The text for people about a connection that failed (docs/COMMANDS.md, "tell").
use Rattle.std.specs.Prelude.{◌≡◌, ◌++◌, List, codes, ℕ}
use Rattle.control_client.specs.declared.trouble.Trouble.{Trouble}
use Rattle.control_client.specs.declared.trouble.Trouble.TheVariants.{Closed, Endless, LongPath, Unconnected}

abbrev pub IsTroubleLine : List ℕ → Trouble → List ℕ → Type 0
IsTroubleLine address LongPath line = line ≡ codes "cannot connect to " ++ (address ++ codes ": the path has more than 107 bytes\n")
IsTroubleLine address (Unconnected code kind) line =
    (error : List ℕ) × (line ≡ codes "cannot connect to " ++ (address ++ (codes ": " ++ (error ++ codes "\n"))))
IsTroubleLine address Closed line = line ≡ address ++ codes " closed the connection before its reply\n"
IsTroubleLine address Endless line = line ≡ address ++ codes " sent a reply that does not end\n"

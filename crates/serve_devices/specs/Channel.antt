-- What contracts see of the two ends of a channel.
use Rattle.std.specs.Prelude.{◌≡◌, ◌++◌, ◌∷◌, List, []}
use Rattle.crossbeam_channel.specs.Claims.{view}
use Rattle.crossbeam_channel.specs.Ends.{receives_on, sends_on}
use Rattle.serve_devices.specs.declared.channel.ChannelReceiver.{ChannelReceiver}
use Rattle.serve_devices.specs.declared.channel.ChannelSender.{ChannelSender}
use Rattle.serve_devices.specs.declared.channel.Taken.{Taken}

-- the one list is the beginning of the other
abbrev pub IsFirstOf : {T : Type 0} → List T → List T → Type 0
IsFirstOf {T} first whole = (rest : List T) × (whole ≡ first ++ rest)

module _ {T : Type 0} where
  -- what was put in, in order
  abbrev pub put_by : ChannelSender T → List T
  put_by sender = (view sender.pass).put

  -- what was taken out, in order
  abbrev pub taken_from : ChannelReceiver T → List T
  taken_from receiver = (view receiver.pass).taken

  -- the same, by an end that is gone
  abbrev pub all_taken : Taken T → List T
  all_taken taken = (view taken.pass).taken

  abbrev pub AreOneChannel : ChannelSender T → ChannelReceiver T → Type 0
  AreOneChannel sender receiver = receives_on receiver.end ≡ sends_on sender.end

  -- an end of the same channel, by which this was put after what was put before
  abbrev pub HasPut : ChannelSender T → ChannelSender T → T → Type 0
  HasPut before after value = (sends_on after.end ≡ sends_on before.end) × (put_by after ≡ put_by before ++ value ∷ [])

  abbrev pub IsSameSender : ChannelSender T → ChannelSender T → Type 0
  IsSameSender before after = (sends_on after.end ≡ sends_on before.end) × (put_by after ≡ put_by before)

  abbrev pub HasTaken : ChannelReceiver T → ChannelReceiver T → T → Type 0
  HasTaken before after value = (receives_on after.end ≡ receives_on before.end) × (taken_from after ≡ taken_from before ++ value ∷ [])

  abbrev pub IsSameReceiver : ChannelReceiver T → ChannelReceiver T → Type 0
  IsSameReceiver before after = (receives_on after.end ≡ receives_on before.end) × (taken_from after ≡ taken_from before)

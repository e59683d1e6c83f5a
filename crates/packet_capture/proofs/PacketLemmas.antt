-- The packets of a file, written record by record.
use Rattle.std.proofs.Common.{◌≡◌, ◌≢◌, ◌-◌, ◌⊎◌, ◌∷◌, ◌++◌, ◌∙◌, Err, List, Ok, Option, Result, Some, [], ap, drop, inl, inr, length, refl, subst, sym, ℕ}
use Rattle.std.proofs.lemmas.Grind.{flat_map-append}
use Rattle.std.specs.Io.KnownBytes.{Appends, Keeps}
use Rattle.std.specs.List.{flat_map}
use Rattle.std.specs.Result.{IsErrAnd}
use Rattle.packet_capture.proofs.CaptureLemmas.{AreRecords-more, packets_of-append, place_of-some}
use Rattle.packet_capture.specs.Capture.{IsCapture, packets_of, place_of}
use Rattle.packet_capture.specs.Content.{IsContent}
use Rattle.packet_capture.specs.Header.{IsFileHeader}
use Rattle.packet_capture.specs.Record.{HasNoRecord, IsRecord}
use Rattle.packet_capture.specs.declared.content.Content.{Content}
use Rattle.packet_capture.specs.declared.header.FileHeader.{FileHeader}
use Rattle.std.proofs.KnownBytes.{Appends-kept, Appends-trans}
use Rattle.command_line.specs.declared.ending.Status.{Status}
use Rattle.command_line.specs.declared.ending.Status.TheVariants.{Done, Refused}
use Rattle.packet_capture.specs.Packets.{WritesText, cut_text, packet_line, packet_lines}
use Rattle.packet_capture.specs.body.Progress.{WritesRecords}

pub packet_lines-append : (unwrap : Option ℕ) (a b : List Content) → packet_lines unwrap (a ++ b) ≡ packet_lines unwrap a ++ packet_lines unwrap b
packet_lines-append unwrap a b =
    ap (λ (packets : List (List ℕ)). flat_map packet_line packets) (packets_of-append unwrap a b)
    ∙ flat_map-append packet_line (packets_of unwrap a) (packets_of unwrap b)

-- a record more
pub WritesRecords-more :
    (unwrap : Option ℕ) (header : FileHeader) (bytes rest captured behind : List ℕ) (content : Content) (before between after : Option (List ℕ))
    → WritesRecords unwrap header bytes rest before between
    → IsRecord header.order rest captured behind
    → IsContent header.link_type header.order captured content
    → Appends between after (packet_lines unwrap (content ∷ []))
    → WritesRecords unwrap header bytes behind before after
WritesRecords-more unwrap header bytes rest captured behind content before between after so_far is_record is_content written = record {
  contents = so_far.contents ++ content ∷ [];
  are_records = AreRecords-more header bytes rest captured behind so_far.contents content so_far.are_records is_record is_content;
  written =
      subst (λ (text : List ℕ). Appends before after text) (sym (packet_lines-append unwrap so_far.contents (content ∷ [])))
      (Appends-trans before between after (packet_lines unwrap so_far.contents) (packet_lines unwrap (content ∷ [])) so_far.written written);
}

-- an error that `?` hands on is this one
pub error_is : {T U E : Type 0} (result : Result T E) (given wanted : E) → IsErrAnd result (λ e. e ≡ given) → result ≡ Err wanted
    → ◌≡◌ {A = Result U E} (Err given) (Err wanted)
error_is (Ok value) given wanted is same = absurd is
error_is (Err e) given wanted is same = let eq : e ≡ wanted = cc in ap (λ x. Err x) (sym is ∙ eq)

module _ (unwrap : Option ℕ) (file : List ℕ) (header : FileHeader) (is_header : IsFileHeader file header) (before between after last : Option (List ℕ)) (kept : Keeps after last) where
  -- the file is whole
  whole_text : (rest : List ℕ) → WritesRecords unwrap header (drop 24 file) rest before between → HasNoRecord header.order rest
      → rest ≡ [] → between ≡ after → WritesText unwrap file Done before last
  whole_text rest written no_more none same = record {
    text = packet_lines unwrap written.contents;
    text_is = record {
      header = header;
      contents = written.contents;
      is_capture = subst (λ (r : List ℕ). IsCapture file header written.contents r) none (record { is_header = is_header; are_records = written.are_records; no_more = no_more });
      text_is = refl;
    };
    written = Appends-kept before after last (packet_lines unwrap written.contents) (subst (λ (o : Option (List ℕ)). Appends before o (packet_lines unwrap written.contents)) same written.written) kept;
  }

  -- it is cut
  cut_text_written : (rest : List ℕ) → WritesRecords unwrap header (drop 24 file) rest before between → HasNoRecord header.order rest
      → rest ≢ [] → Appends between after (cut_text (Some (length file - length rest))) → WritesText unwrap file Refused before last
  cut_text_written rest written no_more more cut = record {
    text = packet_lines unwrap written.contents ++ cut_text (place_of file rest);
    text_is = inl (record {
      header = header;
      contents = written.contents;
      rest = rest;
      is_capture = record { is_header = is_header; are_records = written.are_records; no_more = no_more };
      is_cut = more;
      text_is = refl;
    });
    written = Appends-kept before after last (packet_lines unwrap written.contents ++ cut_text (place_of file rest))
        (Appends-trans before between after (packet_lines unwrap written.contents) (cut_text (place_of file rest)) written.written
        (subst (λ (place : Option ℕ). Appends between after (cut_text place)) (sym (place_of-some file rest more)) cut)) kept;
  }

  pub text_written : (rest : List ℕ) (status : Status) → WritesRecords unwrap header (drop 24 file) rest before between → HasNoRecord header.order rest
      → (status ≡ Done) ⊎ (status ≡ Refused)
      → (status ≡ Done → (rest ≡ []) × (between ≡ after))
      → (status ≡ Refused → (rest ≢ []) × Appends between after (cut_text (Some (length file - length rest))))
      → WritesText unwrap file status before last
  text_written rest status written no_more either done refused = elim either [
    | inl is ↦ subst (λ (s : Status). WritesText unwrap file s before last) (sym is) (whole_text rest written no_more (done is).0 (done is).1)
    | inr is ↦ subst (λ (s : Status). WritesText unwrap file s before last) (sym is) (cut_text_written rest written no_more (refused is).0 (refused is).1)
  ]

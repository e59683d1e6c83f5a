use Rattle.filter_compile.proofs.write_words.Goals as goal

pub write_to_labels-requires-clause-no_by : goal.write_to_labels-requires-clause-no_by
write_to_labels-requires-clause-no_by g c = c.label-no.ensures.by

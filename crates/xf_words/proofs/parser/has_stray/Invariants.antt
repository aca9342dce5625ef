use Rattle.std.proofs.Common.{◌≡◌, drop, map, string_bytes}
use Rattle.std.specs.List.{list_any}
use Rattle.xf_words.specs.Applications.{is_stray}
use Rattle.xf_words.proofs.parser.has_stray.Given as goal

abbrev pub invariant-loop-word : goal.invariant-loop-word
invariant-loop-word l = list_any is_stray (map string_bytes (drop l.word-index l.words)) ≡ list_any is_stray (map string_bytes l.words)

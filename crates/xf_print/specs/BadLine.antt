-- The text of a bad line.
use Rattle.std.specs.Prelude.{ℕ, List, ◌++◌, codes, decimal}
use Rattle.xf_types.specs.declared.status.Reason.{Reason}
use Rattle.xf_types.specs.declared.status.Reason.TheVariants as reasons
use Rattle.xf_print.specs.Receipts.{line_feed}

-- why a line is bad
abbrev pub reason_text : Reason → List ℕ
reason_text reasons.Byte = codes "byte"
reason_text reasons.Long = codes "long"
reason_text reasons.Quote = codes "quote"
reason_text reasons.Cut = codes "cut"
reason_text reasons.Word = codes "word"
reason_text reasons.Unsupported = codes "unsupported"
reason_text reasons.Missing = codes "missing"
reason_text reasons.Repeated = codes "repeated"
reason_text reasons.Number = codes "number"
reason_text reasons.Range = codes "range"
reason_text reasons.Address = codes "address"
reason_text reasons.Family = codes "family"
reason_text reasons.Ports = codes "ports"
reason_text reasons.Templates = codes "templates"
reason_text reasons.Mixed = codes "mixed"
reason_text reasons.Phase = codes "phase"
reason_text reasons.Input = codes "input"

-- the line that a bad line of the input gives
unfoldable pub bad_line_text : ℕ → Reason → List ℕ
bad_line_text line reason = codes "bad line " ++ decimal line ++ codes ": " ++ reason_text reason ++ line_feed

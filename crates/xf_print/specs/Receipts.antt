-- The lines of receipts and of histories.
use Rattle.std.specs.Prelude.{ℕ, ◌==◌, if◌then◌else◌, List, [], ◌∷◌, ◌++◌, codes, decimal}
use Rattle.std.specs.List.{flat_map}
use Rattle.xf_types.specs.declared.call.Place.{Place}
use Rattle.xf_types.specs.declared.call.Receipt.{Receipt}
use Rattle.xf_types.specs.declared.call.Reply.{Reply}
use Rattle.xf_print.specs.Replies.{reply_text, further_texts}

-- a line's end
abbrev pub line_feed : List ℕ
line_feed = 10 ∷ []

-- a line of the input, and the part of it above 0
unfoldable pub place_text : Place → List ℕ
place_text at = decimal at.line ++ (if at.part == 0 then [] else codes "." ++ decimal at.part) ++ codes ": "

-- a printed line: the place, a text, and the end
abbrev pub line_text : Place → List ℕ → List ℕ
line_text at text = place_text at ++ text ++ line_feed

-- the lines of a reply at a place, each with the same beginning
unfoldable pub answer_text : Place → Reply → List ℕ
answer_text at reply = flat_map (line_text at) (reply_text reply ∷ further_texts reply)

-- the lines of a receipt
abbrev pub receipt_text : Receipt → List ℕ
receipt_text r = answer_text r.at r.reply

-- the lines of a history
abbrev pub text_of : List Receipt → List ℕ
text_of history = flat_map receipt_text history

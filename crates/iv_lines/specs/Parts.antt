-- For private clauses: lines that are put together of parts.
use Rattle.std.specs.Prelude.{◌≡◌, ◌==◌, ℕ, false, List, ◌++◌, length, codes, decimal}
use Rattle.iv_machine.specs.declared.Cause.{Cause}
use Rattle.iv_machine.specs.declared.Cause.TheVariants as cause
use Rattle.iv_lines.specs.declared.answers.SessionPart.{SessionPart}

-- the session and the subscription, which end a line
abbrev pub rest_text : ℕ → ℕ → List ℕ
rest_text n k = (codes ",\"session\":" ++ decimal n) ++ ((codes ",\"sub\":" ++ decimal k) ++ codes "}\n")

-- the session, up to the number of the subscription
abbrev pub session_part : ℕ → List ℕ
session_part n = (codes ",\"session\":" ++ decimal n) ++ codes ",\"sub\":"

-- the text, if there is one, is the part that names the session
abbrev pub IsPart : SessionPart → Type 0
IsPart p = (length p.text.items == 0) ≡ false → p.text.items ≡ session_part p.session

-- the line of a change, by the part that names its session and the text of its rows
abbrev pub change_behind : List ℕ → ℕ → List ℕ → List ℕ
change_behind part k rows = codes "{\"changes\":" ++ (rows ++ ((part ++ decimal k) ++ codes "}\n"))

-- the line of a change, by the text of its rows
abbrev pub change_text : ℕ → ℕ → List ℕ → List ℕ
change_text n k rows = codes "{\"changes\":" ++ (rows ++ rest_text n k)

abbrev pub cause_part : Cause → List ℕ
cause_part cause.Privilege = codes ",\"ended\":\"privilege\""
cause_part cause.Limit = codes ",\"ended\":\"limit\""

abbrev pub ended_text : ℕ → ℕ → Cause → List ℕ → List ℕ
ended_text n k why rows = codes "{\"changes\":" ++ (rows ++ (cause_part why ++ rest_text n k))

abbrev pub done_text : ℕ → List ℕ
done_text n = (codes "{\"ok\":true,\"session\":" ++ decimal n) ++ codes "}\n"

abbrev pub subscribed_text : ℕ → ℕ → List ℕ
subscribed_text n k = codes "{\"ok\":true" ++ rest_text n k

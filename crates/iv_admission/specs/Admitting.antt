-- Which tokens a desk is to know, second by second, and which web tokens are known on.
use Rattle.std.specs.Prelude.{◌≡◌, ◌⊎◌, ℕ, ◌%◌, ◌==◌, ◌&&◌, ◌||◌, Bool, true, false, not, if◌then◌else◌, List, [], ◌∷◌, ◌++◌, codes, filter, length}
use Rattle.std.specs.Prelude.{nat_lt, Option, Some, None, option_and_then, Result, Ok, Err}
use Rattle.iv_clients.specs.Tokens.{Token}
use Rattle.iv_gate.specs.Events.{known}
use Rattle.iv_tokens.specs.declared.web.Judged.{Judged}
use Rattle.iv_tokens.specs.declared.web.Judged.TheVariants as answer
use Rattle.iv_tokens.specs.Entries.{Entry}
use Rattle.iv_tokens.specs.Web.{Known, Web, answer_to, grants_role, handed_on, known_at, told}
use Rattle.iv_host.specs.Admins.{admins_among, opens_by, presented}
use Rattle.iv_desk.specs.Front.{Front, by_event, dismissed}
use Rattle.iv_desk.specs.Desks.{IsCalledOut, IsDesk}
use Rattle.iv_desk.specs.declared.desk.Desk.{Desk}
use Rattle.iv_admission.specs.declared.admission.Admission.{Admission}
use Rattle.iv_admission.specs.ByToken.{are_by}

-- ---- what is known

-- the tokens that are known at its second
abbrev pub tokens_of : Admission → List Token
tokens_of a = known_at a.second a.known

-- the desk knows these tokens from now on, and who came by another is closed
abbrev pub IsToldOf : List Token → (x y : Desk) → Type 0
IsToldOf tokens x y = (d : Front) → IsDesk d x → IsCalledOut dismissed (by_event (known tokens) d) y

-- the desk is told of these tokens, unless they are those that were handed on last
abbrev pub IsHanded : Known → List Token → (x y : Desk) → Type 0
IsHanded k tokens x y = IsToldOf tokens x y ⊎ ((y ≡ x) × (handed_on k ≡ Some tokens))

-- these tokens of a file are known, and no web token, and they were handed on; texts are judged if there is a secret
pub record IsBegun (es : List Entry) (a : Admission) (ts : List Token) : Type 0 where
  pub entries : a.known.entries ≡ es
  pub web : a.known.web ≡ []
  pub tokens : ts ≡ tokens_of a
  pub handed : handed_on a.known ≡ Some ts
  pub admins : a.admins.tokens.items ≡ admins_among ts
  pub judges : a.judges ≡ not (length a.known.secret == 0)

-- the tokens of administrators are those among the tokens that were handed on last
abbrev pub HasAdmins : Admission → Type 0
HasAdmins a = (ts : List Token) → handed_on a.known ≡ Some ts → a.admins.tokens.items ≡ admins_among ts

-- ---- web tokens that are forgotten

-- it has not ended, and a client has come in by it
abbrev pub is_in_use : Admission → Web → Bool
is_in_use a w = nat_lt a.second w.until && nat_lt 0 (are_by a.by_token.counts w.token.digest)

-- those that are in use
abbrev pub in_use : Admission → List Web
in_use a = filter (is_in_use a) a.known.web

-- those that are known on at a further second: each tenth one those in use
abbrev pub web_on : Admission → (second : ℕ) → List Web
web_on a second = if second % 10 == 0 then in_use (record a { second = second }) else a.known.web

-- the secret, and who is there
abbrev pub IsSameBase : (old new : Admission) → Type 0
IsSameBase old new = (new.known.secret ≡ old.known.secret) × (new.by_token ≡ old.by_token)

-- these, the entries and the second
abbrev pub IsSameBut : (old new : Admission) → Type 0
IsSameBut old new = (new.known.entries ≡ old.known.entries) × (new.known.secret ≡ old.known.secret)
    × (new.second ≡ old.second) × (new.by_token ≡ old.by_token)

-- nothing that was handed on is changed: it is to be handed on anew, or it is the same
abbrev pub IsLater : (old new : Known) → Type 0
IsLater old new = (new.handed ≡ None) ⊎ (new ≡ old)

-- ---- a text that is presented

-- it is granted, but too many are known
abbrev pub is_beyond : Judged → Bool
is_beyond answer.Full = true
is_beyond answer.Known = false
is_beyond answer.Granted = false
is_beyond (answer.Refused why) = false

-- what becomes of a text beside these web tokens
abbrev pub answer_beside : List Web → Admission → (text : List ℕ) → Result Web Judged
answer_beside web a text = answer_to a.known.entries a.known.secret web a.second text

-- the web tokens beside which it is judged: if too many are known, those in use, unless it was looked for these in this second
abbrev pub beside : Admission → (text : List ℕ) → List Web
beside a text = if is_beyond (told (answer_beside a.known.web a text)) && not a.looked then in_use a else a.known.web

abbrev pub answer_for : Admission → (text : List ℕ) → Result Web Judged
answer_for a text = answer_beside (beside a text) a text

-- a web token that is granted is known behind these
abbrev pub with_granted : Result Web Judged → List Web → List Web
with_granted (Ok w) ws = ws ++ w ∷ []
with_granted (Err why) ws = ws

-- the web tokens that are known from then on
abbrev pub web_after : Admission → (text : List ℕ) → List Web
web_after a text = with_granted (answer_for a text) (beside a text)

-- ---- administrators

abbrev pub is_granted_admin : Admission → Option (List ℕ) → Bool
is_granted_admin a None = false
is_granted_admin a (Some token) = grants_role a.known.secret a.second (codes "admin") token

-- what a field Authorization presents is a token of administrators that was handed on, or a web token that opens their role now
abbrev pub opens_admin : Admission → (field : Option (List ℕ)) → Bool
opens_admin a field = opens_by a.admins.tokens.items field || is_granted_admin a (option_and_then presented field)

-- What a token says, and whether it is to be believed (RFC 7515, sections 3.1, 4.1 and 5.2; RFC 7518, section 3.2; RFC 7519, sections 4.1 and 7.2).
use Rattle.std.specs.Prelude.{◌≡◌, ◌==◌, ℕ, ◌<◌, ◌≤◌, ◌⊎◌, ◌&&◌, ◌||◌, not, Bool, true, false, if◌then◌else◌, List, [], ◌∷◌, ◌++◌, length, nat_le, nat_lt, bytes_eq, codes, Option, Some, None, option_map, option_and_then, is_some, Result, Ok, Err}
use Rattle.base64.specs.Engines.{url_safe_no_pad}
use Rattle.base64.specs.GeneralPurpose.{IsBytes, decoded_of}
use Rattle.base64.specs.Rfc4648.{encode}
use Rattle.json.specs.Json.{Json}
use Rattle.json.specs.Find.{get}
use Rattle.iv_rows.specs.Names.{is_name}
use Rattle.iv_jwt.specs.declared.tokens.Fault.{Fault}
use Rattle.iv_jwt.specs.declared.tokens.Fault.TheVariants as fault
use Rattle.iv_jwt.specs.Documents.{json_of, seconds_at, text_at}
use Rattle.iv_jwt.specs.Hmac.{hmac}

-- a role, whom the token speaks of, and the second at which it ends
pub record Granted : Type 0 where
  pub role : List ℕ
  pub subject : List ℕ
  pub expires : ℕ

-- what is between the dots of a token, decoded, and what is signed: the header and the claims as they were sent, with their dot
pub record Opened : Type 0 where
  pub signed : List ℕ
  pub header : List ℕ
  pub claims : List ℕ
  pub mac : List ℕ

-- ---- its parts

-- what comes before the first dot, and after it
abbrev pub cut : List ℕ → Option (List ℕ × List ℕ)
cut [] = None
cut (x ∷ xs) = if x == 46 then Some ([], xs) else option_map {U = List ℕ × List ℕ} (λ p. (x ∷ p.0, p.1)) (cut xs)

-- base64url without padding, and without stray bits (RFC 7515, appendix C; RFC 4648, sections 3.5 and 5)
abbrev pub decoded : List ℕ → Option (List ℕ)
decoded text = decoded_of url_safe_no_pad text

abbrev pub open_parts : (header claims mac : List ℕ) → Option Opened
open_parts header claims mac =
    option_and_then (λ h. option_and_then (λ c. option_map (λ m. record { signed = header ++ 46 ∷ claims; header = h; claims = c; mac = m })
    (decoded mac)) (decoded claims)) (decoded header)

-- three parts between two dots; a third dot is no symbol of base64url
abbrev pub opened : List ℕ → Option Opened
opened token =
    option_and_then (λ (p : List ℕ × List ℕ). option_and_then (λ (q : List ℕ × List ℕ). open_parts p.0 q.0 q.1) (cut p.1)) (cut token)

-- ---- its header

abbrev pub is_text : List ℕ → Option (List ℕ) → Bool
is_text wanted None = false
is_text wanted (Some text) = bytes_eq text wanted

-- HS256 and no other algorithm; a JWT, if it says what it is; and nothing that has to be understood
abbrev pub is_header : Json → Bool
is_header j =
    is_text (codes "HS256") (text_at (codes "alg") j)
    && ((not (is_some (get (codes "typ") j)) || is_text (codes "JWT") (text_at (codes "typ") j)) && not (is_some (get (codes "crit") j)))

abbrev pub is_well_header : Option Json → Bool
is_well_header None = false
is_well_header (Some j) = is_header j

-- ---- its claims

-- what is claimed, and from which second on: from the first, if it is not said
pub record Claimed : Type 0 where
  pub granted : Granted
  pub begins : ℕ

abbrev pub role_at : Json → Option (List ℕ)
role_at j = option_and_then (λ role. if is_name role then Some role else None) (text_at (codes "role") j)

abbrev pub subject_at : Json → Option (List ℕ)
subject_at j = option_and_then (λ sub. if nat_le (length sub) 255 then Some sub else None) (text_at (codes "sub") j)

abbrev pub begins_at : Json → Option ℕ
begins_at j = if is_some (get (codes "nbf") j) then seconds_at (codes "nbf") j else Some 0

-- who is named as an audience is another: who does not find itself there must refuse the token (RFC 7519, section 4.1.3)
abbrev pub has_no_audience : Json → Bool
has_no_audience j = not (is_some (get (codes "aud") j))

-- what is claimed, but for the audience
abbrev pub claimed_of : Json → Option Claimed
claimed_of j =
    option_and_then (λ role. option_and_then (λ sub. option_and_then (λ exp. option_map
    (λ begins. record { granted = record { role = role; subject = sub; expires = exp }; begins = begins })
    (begins_at j)) (seconds_at (codes "exp") j)) (subject_at j)) (role_at j)

abbrev pub claimed_in : Json → Option Claimed
claimed_in j = if has_no_audience j then claimed_of j else None

-- ---- what it grants

-- at a second before it ends, and not before it begins
abbrev pub granted_at : ℕ → Option Claimed → Result Granted Fault
granted_at now None = Err fault.Claims
granted_at now (Some c) = if nat_le c.granted.expires now then Err fault.Expired else if nat_lt now c.begins then Err fault.Early else Ok c.granted

-- the signature is looked at before anything that it signs
abbrev pub judged_open : (secret : List ℕ) (now : ℕ) → Option Opened → Result Granted Fault
judged_open secret now None = Err fault.Malformed
judged_open secret now (Some o) =
    if not (bytes_eq o.mac (hmac secret o.signed)) then Err fault.Forged
    else if not (is_well_header (json_of o.header)) then Err fault.Header
    else granted_at now (option_and_then claimed_in (json_of o.claims))

-- a secret has the bytes of a digest at least (RFC 7518, section 3.2)
abbrev pub fewest_bytes : ℕ
fewest_bytes = 32

abbrev pub judged : (secret : List ℕ) (now : ℕ) (token : List ℕ) → Result Granted Fault
judged secret now token = if nat_lt (length secret) fewest_bytes then Err fault.Secret else judged_open secret now (opened token)

-- ---- what is believed, in other words

-- the text of bytes
unfoldable pub base64url : List ℕ → List ℕ
base64url bytes = encode (codes "ABCDEFGHIJKLMNOPQRSTUVWXYZabcdefghijklmnopqrstuvwxyz0123456789-_") 61 false bytes

-- the token is a header, claims and a signature, which this secret of 32 bytes or more makes over exactly the bytes in front of it; the
-- header names HS256, no other type than a JWT, and nothing that has to be understood; and the claims say this role, this subject, this end,
-- which is yet to come, no begin that is yet to come, and no audience
pub record IsGranted (secret : List ℕ) (now : ℕ) (token : List ℕ) (g : Granted) : Type 0 where
  pub strong : 32 ≤ length secret
  pub header : List ℕ
  pub claims : List ℕ
  pub token_is : token ≡ (base64url header ++ 46 ∷ base64url claims) ++ 46 ∷ base64url (hmac secret (base64url header ++ 46 ∷ base64url claims))
  pub header_json : Json
  pub header_is : json_of header ≡ Some header_json
  pub algorithm : text_at (codes "alg") header_json ≡ Some (codes "HS256")
  pub kind : (get (codes "typ") header_json ≡ None) ⊎ (text_at (codes "typ") header_json ≡ Some (codes "JWT"))
  pub nothing_critical : get (codes "crit") header_json ≡ None
  pub claims_json : Json
  pub claims_are : json_of claims ≡ Some claims_json
  pub role : text_at (codes "role") claims_json ≡ Some g.role
  pub subject : text_at (codes "sub") claims_json ≡ Some g.subject
  pub short : length g.subject ≤ 255
  pub expires : seconds_at (codes "exp") claims_json ≡ Some g.expires
  pub is_name : is_name g.role ≡ true
  pub in_time : now < g.expires
  pub begun : (b : ℕ) × (begins_at claims_json ≡ Some b) × (b ≤ now)
  pub no_audience : get (codes "aud") claims_json ≡ None

abbrev pub JudgedIsGranted : Type 0
JudgedIsGranted = (secret token : List ℕ) (now : ℕ) (g : Granted) → IsBytes token → judged secret now token ≡ Ok g → IsGranted secret now token g

-- What is granted is what a token says.
use Rattle.std.proofs.Common.{◌≡◌, ℕ, ◌≤◌, ◌<◌, Bool, true, false, cond, not, ◌&&◌, ◌||◌, ◌⊎◌, inl, inr, List, ◌∷◌, ◌++◌, length, Option, Some, None, option_map, option_and_then, is_some, Result, Ok, Err, refl, ap, ◌∙◌, sym, subst, append_assoc, arith}
use Rattle.std.specs.Prelude.{IfOk, bytes_eq, codes, nat_le, nat_lt}
use Rattle.std.specs.Result.{result_ok}
use Rattle.std.proofs.lemmas.Bool.{leb-false, leb-true}
use Rattle.std.proofs.lemmas.Bool.Decides.{nat_tests}
use Rattle.std.proofs.lemmas.Slice.Eq.{bytes_eq-Decides}
use Rattle.base64.specs.declared.decode.DecodeError.{DecodeError}
use Rattle.base64.specs.Engines.{url_safe_no_pad}
use Rattle.base64.specs.GeneralPurpose.{IsBytes, decode_of, decoded_of, encode_of}
use Rattle.base64.proofs.EngineFacts.{decode_of_strict}
use Rattle.json.specs.Json.{Json}
use Rattle.json.specs.Find.{get}
use Rattle.iv_rows.specs.Names.{is_name}
use Rattle.iv_jwt.specs.declared.tokens.Claims.{Claims}
use Rattle.iv_jwt.specs.declared.tokens.Fault.{Fault}
use Rattle.iv_jwt.specs.declared.tokens.Fault.TheVariants as fault
use Rattle.iv_jwt.specs.Documents.{json_of, seconds_at, text_at}
use Rattle.iv_jwt.specs.Hmac.{hmac}
use Rattle.iv_jwt.specs.Tokens.{Claimed, Granted, IsGranted, JudgedIsGranted, Opened, base64url, begins_at, claimed_in, claimed_of, cut, decoded, granted_at, is_header, is_text, is_well_header, judged, judged_open, open_parts, opened, role_at, subject_at}
use Rattle.iv_jwt.specs.Seen.{IsAnswer, granted_by}
use Rattle.iv_jwt.proofs.Cuts.{IsBytes-append_back, same-cut, IsBytes-append_front, not_Some-None}

-- ---- its parts

ok_of : (r : Result (List ℕ) DecodeError) (b : List ℕ) → result_ok r ≡ Some b → r ≡ Ok b
ok_of (Ok a) b h = ap (λ z. Ok z) (cc h)
ok_of (Err e) b h = absurd (not_Some-None b h)

decodes_to : (s b : List ℕ) → decoded s ≡ Some b → decode_of url_safe_no_pad s ≡ Ok b
unfolding decoded_of
decodes_to s b h = ok_of (decode_of url_safe_no_pad s) b h

is_encoded : (b : List ℕ) → encode_of url_safe_no_pad b ≡ base64url b
unfolding base64url
is_encoded b = refl

-- the text of a part is that of its bytes, and of no others
decoded_exact : (s b : List ℕ) → IsBytes s → decoded s ≡ Some b → s ≡ base64url b
decoded_exact s b bytes h = decode_of_strict url_safe_no_pad s b (refl, refl) bytes (decodes_to s b h) ∙ is_encoded b

-- the parts of a token, as they were sent
record Sent (token : List ℕ) (o : Opened) : Type 0 where
  header : List ℕ
  claims : List ℕ
  mac : List ℕ
  token_is : token ≡ header ++ 46 ∷ (claims ++ 46 ∷ mac)
  signed : o.signed ≡ header ++ 46 ∷ claims
  header_is : decoded header ≡ Some o.header
  claims_are : decoded claims ≡ Some o.claims
  mac_is : decoded mac ≡ Some o.mac

sent_parts : (token header claims mac : List ℕ) (o : Opened) → token ≡ header ++ 46 ∷ (claims ++ 46 ∷ mac) → open_parts header claims mac ≡ Some o → Sent token o
sent_parts token header claims mac o is h = by (decoded header) (decoded claims) (decoded mac) refl refl refl h
  where
    by : (a b c : Option (List ℕ)) → decoded header ≡ a → decoded claims ≡ b → decoded mac ≡ c
        → option_and_then (λ x. option_and_then (λ y. option_map (λ z. record { signed = header ++ 46 ∷ claims; header = x; claims = y; mac = z }) c) b) a ≡ Some o → Sent token o
    by None b c ea eb ec k = absurd (not_Some-None o k)
    by (Some x) None c ea eb ec k = absurd (not_Some-None o k)
    by (Some x) (Some y) None ea eb ec k = absurd (not_Some-None o k)
    by (Some x) (Some y) (Some z) ea eb ec k =
        let made : Opened = record { signed = header ++ 46 ∷ claims; header = x; claims = y; mac = z } in
        let same : made ≡ o = cc k in
        subst (Sent token) same (record { header = header; claims = claims; mac = mac; token_is = is; signed = refl; header_is = ea; claims_are = eb; mac_is = ec })

sent_of : (token : List ℕ) (o : Opened) → opened token ≡ Some o → Sent token o
sent_of token o h = first (cut token) refl h
  where
    second : (p : List ℕ × List ℕ) (r : Option (List ℕ × List ℕ)) → cut token ≡ Some p → cut p.1 ≡ r → option_and_then (λ (q : List ℕ × List ℕ). open_parts p.0 q.0 q.1) r ≡ Some o → Sent token o
    second p None ep er k = absurd (not_Some-None o k)
    second p (Some q) ep er k = sent_parts token p.0 q.0 q.1 o (same-cut token p ep ∙ ap (λ z. p.0 ++ 46 ∷ z) (same-cut p.1 q er)) k

    first : (r : Option (List ℕ × List ℕ)) → cut token ≡ r
        → option_and_then (λ (p : List ℕ × List ℕ). option_and_then (λ (q : List ℕ × List ℕ). open_parts p.0 q.0 q.1) (cut p.1)) r ≡ Some o → Sent token o
    first None er k = absurd (not_Some-None o k)
    first (Some p) er k = second p (cut p.1) er refl k

-- ---- its header

same_bytes : (a b : List ℕ) → bytes_eq a b ≡ true → a ≡ b
same_bytes a b h = (bytes_eq-Decides a b).0 h

both : (a b : Bool) → (a && b) ≡ true → (a ≡ true) × (b ≡ true)
both true true h = (refl, refl)
both true false h = absurd (let no : ⊥ = cc in no)
both false b h = absurd (let no : ⊥ = cc in no)

text_is : (wanted : List ℕ) (o : Option (List ℕ)) → is_text wanted o ≡ true → o ≡ Some wanted
text_is wanted None h = absurd (let no : ⊥ = cc in no)
text_is wanted (Some t) h = ap (λ z. Some z) (same_bytes t wanted h)

header_parts : (j : Json) → is_header j ≡ true
    → (is_text (codes "HS256") (text_at (codes "alg") j) ≡ true)
    × ((not (is_some (get (codes "typ") j)) || is_text (codes "JWT") (text_at (codes "typ") j)) ≡ true) × (not (is_some (get (codes "crit") j)) ≡ true)
header_parts j h =
    let first = both (is_text (codes "HS256") (text_at (codes "alg") j))
    ((not (is_some (get (codes "typ") j)) || is_text (codes "JWT") (text_at (codes "typ") j)) && not (is_some (get (codes "crit") j))) h in
    let second = both (not (is_some (get (codes "typ") j)) || is_text (codes "JWT") (text_at (codes "typ") j)) (not (is_some (get (codes "crit") j))) first.1 in
    (first.0, second.0, second.1)

none_there : {X : Type 0} (o : Option X) → not (is_some o) ≡ true → o ≡ None
none_there None h = refl
none_there (Some x) h = absurd (let no : ⊥ = cc in no)

algorithm_is : (j : Json) → is_header j ≡ true → text_at (codes "alg") j ≡ Some (codes "HS256")
algorithm_is j h = text_is (codes "HS256") (text_at (codes "alg") j) (header_parts j h).0

kind_is : (j : Json) → is_header j ≡ true → (get (codes "typ") j ≡ None) ⊎ (text_at (codes "typ") j ≡ Some (codes "JWT"))
kind_is j h = by (get (codes "typ") j) refl (header_parts j h).1
  where
    by : (o : Option Json) → get (codes "typ") j ≡ o → (not (is_some o) || is_text (codes "JWT") (text_at (codes "typ") j)) ≡ true
        → (get (codes "typ") j ≡ None) ⊎ (text_at (codes "typ") j ≡ Some (codes "JWT"))
    by None e k = inl e
    by (Some x) e k = inr (text_is (codes "JWT") (text_at (codes "typ") j) k)

critical_is : (j : Json) → is_header j ≡ true → get (codes "crit") j ≡ None
critical_is j h = none_there (get (codes "crit") j) (header_parts j h).2

-- ---- its claims

record Says (j : Json) (c : Claimed) : Type 0 where
  role : role_at j ≡ Some c.granted.role
  subject : subject_at j ≡ Some c.granted.subject
  expires : seconds_at (codes "exp") j ≡ Some c.granted.expires
  begins : begins_at j ≡ Some c.begins

says_of : (j : Json) (c : Claimed) → claimed_of j ≡ Some c → Says j c
says_of j c h = by (role_at j) (subject_at j) (seconds_at (codes "exp") j) (begins_at j) refl refl refl refl h
  where
    by : (r s : Option (List ℕ)) (e b : Option ℕ) → role_at j ≡ r → subject_at j ≡ s → seconds_at (codes "exp") j ≡ e → begins_at j ≡ b
        → option_and_then (λ role. option_and_then (λ sub. option_and_then (λ exp. option_map
        (λ begins. record { granted = record { role = role; subject = sub; expires = exp }; begins = begins }) b) e) s) r ≡ Some c → Says j c
    by None s e b er es ee eb k = absurd (not_Some-None c k)
    by (Some r) None e b er es ee eb k = absurd (not_Some-None c k)
    by (Some r) (Some s) None b er es ee eb k = absurd (not_Some-None c k)
    by (Some r) (Some s) (Some e) None er es ee eb k = absurd (not_Some-None c k)
    by (Some r) (Some s) (Some e) (Some b) er es ee eb k =
        let made : Claimed = record { granted = record { role = r; subject = s; expires = e }; begins = b } in
        let same : made ≡ c = cc k in
        subst (Says j) same (record { role = er; subject = es; expires = ee; begins = eb })

-- and no audience
heard_of : (j : Json) (c : Claimed) → claimed_in j ≡ Some c → (claimed_of j ≡ Some c) × (get (codes "aud") j ≡ None)
heard_of j c h = by (get (codes "aud") j) refl h
  where
    by : (o : Option Json) → get (codes "aud") j ≡ o → cond (not (is_some o)) (claimed_of j) None ≡ Some c → (claimed_of j ≡ Some c) × (get (codes "aud") j ≡ None)
    by None e k = (k, e)
    by (Some x) e k = absurd (not_Some-None c k)

passed : (test : List ℕ → Bool) (o : Option (List ℕ)) (x : List ℕ) → option_and_then (λ t. cond (test t) (Some t) None) o ≡ Some x → (o ≡ Some x) × (test x ≡ true)
passed test None x h = absurd (not_Some-None x h)
passed test (Some t) x h = by (test t) refl h
  where
    by : (d : Bool) → test t ≡ d → cond d (Some t) None ≡ Some x → (Some t ≡ Some x) × (test x ≡ true)
    by true e k = let same : t ≡ x = cc k in (k, ap test (sym same) ∙ e)
    by false e k = absurd (not_Some-None x k)

-- ---- what it grants

no_ok : (e : Fault) (g : Granted) → Err e ≡ Ok g → ⊥
no_ok e g h = cc h

record Holds (now : ℕ) (j : Json) (g : Granted) : Type 0 where
  role : role_at j ≡ Some g.role
  subject : subject_at j ≡ Some g.subject
  expires : seconds_at (codes "exp") j ≡ Some g.expires
  in_time : now < g.expires
  begun : (b : ℕ) × (begins_at j ≡ Some b) × (b ≤ now)
  no_audience : get (codes "aud") j ≡ None

not_later : (now b : ℕ) → nat_lt now b ≡ false → b ≤ now
not_later now b h = grind (arith, nat_tests)

holds_of : (now : ℕ) (j : Json) (g : Granted) → granted_at now (claimed_in j) ≡ Ok g → Holds now j g
holds_of now j g h = by (claimed_in j) refl h
  where
    later : (c : Claimed) (d e : Bool) → claimed_in j ≡ Some c → nat_le c.granted.expires now ≡ d → nat_lt now c.begins ≡ e
        → cond d (Err fault.Expired) (cond e (Err fault.Early) (Ok c.granted)) ≡ Ok g → Holds now j g
    later c true e ec ed ee k = absurd (no_ok fault.Expired g k)
    later c false true ec ed ee k = absurd (no_ok fault.Early g k)
    later c false false ec ed ee k =
        let same : c.granted ≡ g = cc k in
        let heard = heard_of j c ec in
        let says = says_of j c heard.0 in
        let begun : c.begins ≤ now = not_later now c.begins ee in
        subst (Holds now j) same (record {
          role = says.role;
          subject = says.subject;
          expires = says.expires;
          in_time = leb-false c.granted.expires now ed;
          begun = (c.begins, says.begins, begun);
          no_audience = heard.1;
        })

    by : (o : Option Claimed) → claimed_in j ≡ o → granted_at now o ≡ Ok g → Holds now j g
    by None e k = absurd (no_ok fault.Claims g k)
    by (Some c) e k = later c (nat_le c.granted.expires now) (nat_lt now c.begins) e refl refl k

record Stands (secret : List ℕ) (now : ℕ) (o : Opened) (g : Granted) : Type 0 where
  mac : o.mac ≡ hmac secret o.signed
  header_json : Json
  header_is : json_of o.header ≡ Some header_json
  header_well : is_header header_json ≡ true
  claims_json : Json
  claims_are : json_of o.claims ≡ Some claims_json
  holds : Holds now claims_json g

stands_of : (secret : List ℕ) (now : ℕ) (o : Opened) (g : Granted) → judged_open secret now (Some o) ≡ Ok g → Stands secret now o g
stands_of secret now o g h = by_mac (bytes_eq o.mac (hmac secret o.signed)) refl h
  where
    by_claims : (a : Json) (c : Option Json) → o.mac ≡ hmac secret o.signed → json_of o.header ≡ Some a → is_header a ≡ true → json_of o.claims ≡ c
        → granted_at now (option_and_then claimed_in c) ≡ Ok g → Stands secret now o g
    by_claims a None m ea ha ec k = absurd (no_ok fault.Claims g k)
    by_claims a (Some c) m ea ha ec k =
        record { mac = m; header_json = a; header_is = ea; header_well = ha; claims_json = c; claims_are = ec; holds = holds_of now c g k }

    by_well : (a : Json) (d : Bool) → o.mac ≡ hmac secret o.signed → json_of o.header ≡ Some a → is_header a ≡ d
        → cond (not d) (Err fault.Header) (granted_at now (option_and_then claimed_in (json_of o.claims))) ≡ Ok g → Stands secret now o g
    by_well a false m ea ha k = absurd (no_ok fault.Header g k)
    by_well a true m ea ha k = by_claims a (json_of o.claims) m ea ha refl k

    by_header : (a : Option Json) → o.mac ≡ hmac secret o.signed → json_of o.header ≡ a
        → cond (not (is_well_header a)) (Err fault.Header) (granted_at now (option_and_then claimed_in (json_of o.claims))) ≡ Ok g → Stands secret now o g
    by_header None m ea k = absurd (no_ok fault.Header g k)
    by_header (Some a) m ea k = by_well a (is_header a) m ea refl k

    by_mac : (d : Bool) → bytes_eq o.mac (hmac secret o.signed) ≡ d
        → cond (not d) (Err fault.Forged) (cond (not (is_well_header (json_of o.header))) (Err fault.Header) (granted_at now (option_and_then claimed_in (json_of o.claims)))) ≡ Ok g
        → Stands secret now o g
    by_mac false e k = absurd (no_ok fault.Forged g k)
    by_mac true e k = by_header (json_of o.header) (same_bytes o.mac (hmac secret o.signed) e) refl k

token_shape : (secret token : List ℕ) (o : Opened) → Sent token o → IsBytes token → o.mac ≡ hmac secret o.signed
    → token ≡ (base64url o.header ++ 46 ∷ base64url o.claims) ++ 46 ∷ base64url (hmac secret (base64url o.header ++ 46 ∷ base64url o.claims))
token_shape secret token o s bytes mac =
    let all : IsBytes (s.header ++ 46 ∷ (s.claims ++ 46 ∷ s.mac)) = subst (λ (z : List ℕ). IsBytes z) s.token_is bytes in
    let rest : IsBytes (s.claims ++ 46 ∷ s.mac) = IsBytes-append_back s.header 46 (s.claims ++ 46 ∷ s.mac) all in
    let header = decoded_exact s.header o.header (IsBytes-append_front s.header (46 ∷ (s.claims ++ 46 ∷ s.mac)) all) s.header_is in
    let claims = decoded_exact s.claims o.claims (IsBytes-append_front s.claims (46 ∷ s.mac) rest) s.claims_are in
    let sig = decoded_exact s.mac o.mac (IsBytes-append_back s.claims 46 s.mac rest) s.mac_is in
    let front : s.header ++ 46 ∷ s.claims ≡ base64url o.header ++ 46 ∷ base64url o.claims = ap (λ z. z ++ 46 ∷ s.claims) header ∙ ap (λ z. base64url o.header ++ 46 ∷ z) claims in
    s.token_is ∙ (sym (append_assoc s.header (46 ∷ s.claims) (46 ∷ s.mac))
    ∙ (ap (λ z. z ++ 46 ∷ s.mac) front
    ∙ ap (λ z. (base64url o.header ++ 46 ∷ base64url o.claims) ++ 46 ∷ z) (sig ∙ (ap base64url mac ∙ ap (λ z. base64url (hmac secret z)) (s.signed ∙ front)))))

granted_of : (secret token : List ℕ) (now : ℕ) (g : Granted) (o : Opened) → 32 ≤ length secret → IsBytes token → opened token ≡ Some o → judged_open secret now (Some o) ≡ Ok g → IsGranted secret now token g
granted_of secret token now g o strong bytes e h =
    let t = stands_of secret now o g h in
    let role = passed is_name (text_at (codes "role") t.claims_json) g.role t.holds.role in
    let subject = passed (λ s. nat_le (length s) 255) (text_at (codes "sub") t.claims_json) g.subject t.holds.subject in
    record {
      strong = strong;
      header = o.header;
      claims = o.claims;
      token_is = token_shape secret token o (sent_of token o e) bytes t.mac;
      header_json = t.header_json;
      header_is = t.header_is;
      algorithm = algorithm_is t.header_json t.header_well;
      kind = kind_is t.header_json t.header_well;
      nothing_critical = critical_is t.header_json t.header_well;
      claims_json = t.claims_json;
      claims_are = t.claims_are;
      role = role.0;
      subject = subject.0;
      short = leb-true (length g.subject) 255 subject.1;
      expires = t.holds.expires;
      is_name = role.1;
      in_time = t.holds.in_time;
      begun = t.holds.begun;
      no_audience = t.holds.no_audience;
    }

strong_enough : (n : ℕ) → nat_lt n 32 ≡ false → 32 ≤ n
strong_enough n h = grind (arith, nat_tests)

pub judged_granted : JudgedIsGranted
judged_granted secret token now g bytes h = by_secret (nat_lt (length secret) 32) refl h
  where
    by : (r : Option Opened) → 32 ≤ length secret → opened token ≡ r → judged_open secret now r ≡ Ok g → IsGranted secret now token g
    by None strong e k = absurd (no_ok fault.Malformed g k)
    by (Some o) strong e k = granted_of secret token now g o strong bytes e k

    by_secret : (d : Bool) → nat_lt (length secret) 32 ≡ d → cond d (Err fault.Secret) (judged_open secret now (opened token)) ≡ Ok g → IsGranted secret now token g
    by_secret true e k = absurd (no_ok fault.Secret g k)
    by_secret false e k = by (opened token) (strong_enough (length secret) e) refl k

-- an answer that is as defined grants what the token says
pub IsGranted-IsAnswer : (r : Result Claims Fault) (secret token : List ℕ) (now : ℕ) → IsBytes token → IsAnswer r (judged secret now token)
    → IfOk r (λ c. IsGranted secret now token (granted_by c))
IsGranted-IsAnswer (Ok c) secret token now bytes is = judged_granted secret token now (granted_by c) bytes is
IsGranted-IsAnswer (Err why) secret token now bytes is = tt

-- What is known at a second is of the file, or granted then.
use Rattle.std.proofs.Common.{◌≡◌, inl, inr, ℕ, ◌<◌, ◌≤◌, Bool, true, false, cond, List, [], ◌∷◌, ◌++◌, refl, zero, suc, subst, sym, arith}
use Rattle.std.specs.Prelude.{◌&&◌, All, filter, nat_le, nat_lt}
use Rattle.std.specs.List.{remove}
use Rattle.std.proofs.lemmas.Bool.Decides.{nat_tests}
use Rattle.std.proofs.lemmas.List.Elements.{All-append, All-cons, All-nil, All-weaker}
use Rattle.iv_clients.specs.Tokens.{Token}
use Rattle.iv_jwt.specs.Tokens.{Granted, IsGranted}
use Rattle.iv_tokens.specs.Entries.{IsOfEntry, valid_at}
use Rattle.iv_tokens.specs.Web.{AllAreKnown, AreWeb, IsKnown, IsOfWeb, IsWeb, Known, Web, is_web_valid, known_at, web_at, web_tokens}
use Rattle.iv_tokens.proofs.Valid.{none_behind}

-- ---- what a secret granted

pub AreWeb-push : (secret : List ℕ) (ws : List Web) (w : Web) → AreWeb secret ws → IsWeb secret w → AreWeb secret (ws ++ w ∷ [])
AreWeb-push secret [] w a is = (is, tt)
AreWeb-push secret (v ∷ ws) w a is = (a.0, AreWeb-push secret ws w a.1 is)

pub AreWeb-remove : (secret : List ℕ) (ws : List Web) (at : ℕ) → AreWeb secret ws → AreWeb secret (remove ws at)
AreWeb-remove secret [] zero a = tt
AreWeb-remove secret [] (suc n) a = tt
AreWeb-remove secret (w ∷ ws) zero a = a.1
AreWeb-remove secret (w ∷ ws) (suc n) a = (a.0, AreWeb-remove secret ws n a.1)

-- ---- from the second on at which it was presented, until its end

pub granted_on : (secret text : List ℕ) (then now : ℕ) (g : Granted) → IsGranted secret then text g → then ≤ now → now < g.expires → IsGranted secret now text g
granted_on secret text then now g h since until = record {
  strong = h.strong;
  header = h.header;
  claims = h.claims;
  token_is = h.token_is;
  header_json = h.header_json;
  header_is = h.header_is;
  algorithm = h.algorithm;
  kind = h.kind;
  nothing_critical = h.nothing_critical;
  claims_json = h.claims_json;
  claims_are = h.claims_are;
  role = h.role;
  subject = h.subject;
  short = h.short;
  expires = h.expires;
  is_name = h.is_name;
  in_time = until;
  begun = (h.begun.0, h.begun.1, omega (arith, h.begun.2, since));
  no_audience = h.no_audience;
}

both : (a b : Bool) → (a && b) ≡ true → (a ≡ true) × (b ≡ true)
both true b h = (refl, h)
both false b h = cc

since_is : (a b : ℕ) → nat_le a b ≡ true → a ≤ b
since_is a b h = grind (arith, nat_tests)

until_is : (a b : ℕ) → nat_lt a b ≡ true → a < b
until_is a b h = grind (arith, nat_tests)

of_web : (secret : List ℕ) (now : ℕ) (w : Web) → IsWeb secret w → is_web_valid now w ≡ true → IsOfWeb secret now w.token
of_web secret now w is h =
    let t : (nat_le w.since now ≡ true) × (nat_lt now w.until ≡ true) = both (nat_le w.since now) (nat_lt now w.until) h in
    record {
      text = is.text;
      granted = record { role = w.token.role; subject = w.token.user; expires = w.until };
      digest = is.digest;
      role = refl;
      is = granted_on secret is.text w.since now (record { role = w.token.role; subject = w.token.user; expires = w.until }) is.granted
          (since_is w.since now t.0) (until_is now w.until t.1);
    }

pub web_known : (secret : List ℕ) (now : ℕ) (ws : List Web) → AreWeb secret ws → All (IsOfWeb secret now) (web_at now ws)
web_known secret now [] a = All-nil (IsOfWeb secret now)
web_known secret now (w ∷ ws) a = by (is_web_valid now w) refl (web_known secret now ws a.1)
  where
    by : (b : Bool) → is_web_valid now w ≡ b → All (IsOfWeb secret now) (web_at now ws) → All (IsOfWeb secret now) (web_tokens (cond b (w ∷ filter (is_web_valid now) ws) (filter (is_web_valid now) ws)))
    by true h more = All-cons (IsOfWeb secret now) w.token (web_at now ws) (of_web secret now w a.0 h) more
    by false h more = more

pub all_known : AllAreKnown
all_known now k a = All-append (IsKnown now k) (valid_at now k.entries) (web_at now k.web)
    (All-weaker (IsOfEntry now k.entries) (IsKnown now k) (λ t h. inl h) (valid_at now k.entries) (none_behind now k.entries))
    (All-weaker (IsOfWeb k.secret now) (IsKnown now k) (λ t h. inr h) (web_at now k.web) (web_known k.secret now k.web a))

pub All-IsKnown : (now : ℕ) (k z : Known) (ts : List Token) → z ≡ k → AreWeb z.secret z.web → ts ≡ known_at now z → All (IsKnown now k) ts
All-IsKnown now k z ts v a e = subst (λ (y : Known). All (IsKnown now y) ts) v (subst (λ (us : List Token). All (IsKnown now z) us) (sym e) (all_known now z a))

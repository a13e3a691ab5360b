-- Who presents a token, as the code lets it in.
use Rattle.std.proofs.Common.{◌≡◌, ◌∙◌, ℕ, ◌||◌, Bool, true, false, cond, List, Option, Some, None, is_some, option_map, refl, ap, sym, subst}
use Rattle.std.specs.Prelude.{◌&&◌, bytes_eq, option_and_then}
use Rattle.sha2.specs.Sha256.{sha256}
use Rattle.iv_rows.specs.Names.{is_name}
use Rattle.iv_rows.specs.Options.{if_some}
use Rattle.iv_access.specs.Rights.{Name}
use Rattle.iv_clients.specs.Clients.{is_free}
use Rattle.iv_clients.specs.Feeds.{seat_of}
use Rattle.iv_clients.specs.Kept.{Places, kept_slots}
use Rattle.iv_clients.specs.Tokens.{Token, token_of}
use Rattle.iv_gate.specs.Gate.{Gate, begun_for, came, has_session, seated, token_for, with_session}
use Rattle.iv_gate.proofs.SameFeeds.{same-bytes_eq}
use Rattle.iv_gate.proofs.MachineLists.{true-find}
use Rattle.iv_gate.proofs.EventMarks.{came_as}
use Rattle.iv_gateway.specs.Views.{IsAlive}
use Rattle.iv_gateway.specs.declared.gateway.Gateway.{Gateway}
use Rattle.iv_notices.proofs.ClientChanges.{is_free-kept_slots}
use Rattle.iv_gateway.proofs.UnfollowedFeeds.{same-Some}

none_presented : (o : Option Token) (free : Bool) (session : Name → Bool) → option_and_then (λ (t : Token). cond (is_name t.role && free) (Some t) None) o ≡ None
    → option_and_then (λ (t : Token). cond (is_name t.role && (free && session t.role)) (Some t) None) o ≡ None
none_presented None free session h = refl
none_presented (Some t) free session h = by (is_name t.role) free h
  where
    by : (a f : Bool) → cond (a && f) (Some t) None ≡ None → cond (a && (f && session t.role)) (Some t) None ≡ None
    by true true h = cc
    by true false h = refl
    by false f h = refl

some_presented : (o : Option Token) (free : Bool) (session : Name → Bool) (t : Token)
    → option_and_then (λ (x : Token). cond (is_name x.role && free) (Some x) None) o ≡ Some t
    → option_and_then (λ (x : Token). cond (is_name x.role && (free && session x.role)) (Some x) None) o ≡ cond (session t.role) (Some t) None
some_presented None free session t h = cc
some_presented (Some x) free session t h = by (is_name x.role) free h
  where
    by : (a f : Bool) → cond (a && f) (Some x) None ≡ Some t → cond (a && (f && session x.role)) (Some x) None ≡ cond (session t.role) (Some t) None
    by true true h = ap (λ (z : Token). cond (session z.role) (Some z) None) (same-Some x t h)
    by true false h = cc
    by false f h = cc

no_session : (g : Gate) (role : Name) → has_session g role ≡ false → with_session g role ≡ g
no_session g role h = by (seat_of g.seats role) (begun_for g role) h
  where
    by : (o p : Option ℕ) → (is_some o || is_some p) ≡ false → if_some o (if_some p g (λ n. seated g n role)) (λ n. g) ≡ g
    by None None h = refl
    by None (Some n) h = cc
    by (Some n) p h = refl

-- what is presented, by the gateway
abbrev pub presented_by : Gate → ℕ → List ℕ → Option Token
presented_by g m token = option_and_then (λ (t : Token). cond (is_name t.role && is_free m g.clients) (Some t) None) (token_of g.tokens (sha256 token))

came_by : (g : Gate) (m : ℕ) (token : List ℕ) (o : Option Token) (x : Gateway) → token_for g m token ≡ o → IsAlive (if_some o g (came_as g m)) x
    → (is_some o ≡ is_some (token_for g m token)) × IsAlive (came g m token) x
came_by g m token o x e a = (ap is_some (sym e), subst (λ z. IsAlive (if_some z g (came_as g m)) x) (sym e) a)

pub IsAlive-came_none : (g : Gate) (m : ℕ) (token : List ℕ) (x : Gateway) → presented_by g m token ≡ None → IsAlive g x
    → (false ≡ is_some (token_for g m token)) × IsAlive (came g m token) x
IsAlive-came_none g m token x h a = came_by g m token None x (none_presented (token_of g.tokens (sha256 token)) (is_free m g.clients) (has_session g) h) a

pub IsAlive-came_no_session : (g : Gate) (m : ℕ) (token : List ℕ) (t : Token) (x : Gateway) → presented_by g m token ≡ Some t → has_session g t.role ≡ false
    → IsAlive (with_session g t.role) x
    → (false ≡ is_some (token_for g m token)) × IsAlive (came g m token) x
IsAlive-came_no_session g m token t x h s a =
    came_by g m token None x (some_presented (token_of g.tokens (sha256 token)) (is_free m g.clients) (has_session g) t h
    ∙ ap (λ b. cond b (Some t) None) s)
    (subst (λ z. IsAlive z x) (no_session g t.role s) a)

pub IsAlive-came_as : (g : Gate) (m : ℕ) (token : List ℕ) (t : Token) (x : Gateway) → presented_by g m token ≡ Some t → has_session g t.role ≡ true
    → IsAlive (came_as g m t) x
    → (true ≡ is_some (token_for g m token)) × IsAlive (came g m token) x
IsAlive-came_as g m token t x h s a =
    came_by g m token (Some t) x (some_presented (token_of g.tokens (sha256 token)) (is_free m g.clients) (has_session g) t h
    ∙ ap (λ b. cond b (Some t) None) s) a

-- a token that is found has the digest by which it is found
own_digest : (tokens : List Token) (digest : List ℕ) (t : Token) → token_of tokens digest ≡ Some t → record t { digest = digest } ≡ t
own_digest tokens digest t h =
    let same : t.digest ≡ digest = same-bytes_eq t.digest digest (true-find (λ (x : Token). bytes_eq x.digest digest) tokens t h) in
    λ i. record t { digest = sym same i }

as_found : (tokens : List Token) (digest : List ℕ) (free : Bool) → option_map (λ (t : Token). record t { digest = digest })
    (option_and_then (λ (t : Token). cond (is_name t.role && free) (Some t) None) (token_of tokens digest))
    ≡ option_and_then (λ (t : Token). cond (is_name t.role && free) (Some t) None) (token_of tokens digest)
as_found tokens digest free = by (token_of tokens digest) refl
  where
    test : (t : Token) → record t { digest = digest } ≡ t → (b : Bool) → option_map (λ (x : Token). record x { digest = digest }) (cond b (Some t) None) ≡ cond b (Some t) None
    test t s true = ap Some s
    test t s false = refl

    by : (o : Option Token) → token_of tokens digest ≡ o → option_map (λ (t : Token). record t { digest = digest })
        (option_and_then (λ (t : Token). cond (is_name t.role && free) (Some t) None) o) ≡ option_and_then (λ (t : Token). cond (is_name t.role && free) (Some t) None) o
    by None e = refl
    by (Some t) e = test t (own_digest tokens digest t e) (is_name t.role && free)

pub presented_by-token_of : (g : Gate) (m : ℕ) (token : List ℕ) (tokens : List Token) (places : Places) (digest : List ℕ) (o : Option Token) → tokens ≡ g.tokens
    → places ≡ kept_slots g.clients → digest ≡ sha256 token
    → o ≡ option_map (λ (t : Token). record t { digest = digest }) (option_and_then (λ (t : Token). cond (is_name t.role && is_free m places) (Some t) None) (token_of tokens digest))
    → presented_by g m token ≡ o
presented_by-token_of g m token tokens places digest o t b d h =
    let free : is_free m places ≡ is_free m g.clients = ap (is_free m) b ∙ is_free-kept_slots m g.clients in
    sym (h ∙ (as_found tokens digest (is_free m places) ∙ (λ i. option_and_then (λ (x : Token). cond (is_name x.role && free i) (Some x) None) (token_of (t i) (d i)))))

with_session_dead : (g : Gate) (role : Name) → (with_session g role).dead ≡ g.dead
with_session_dead g role = by (seat_of g.seats role) (begun_for g role)
  where
    by : (o p : Option ℕ) → (if_some o (if_some p g (λ n. seated g n role)) (λ n. g)).dead ≡ g.dead
    by None None = refl
    by None (Some n) = refl
    by (Some n) p = refl

pub dead-came : (g : Gate) (m : ℕ) (token : List ℕ) → (came g m token).dead ≡ g.dead
dead-came g m token = by (token_for g m token)
  where
    by : (o : Option Token) → (if_some o g (came_as g m)).dead ≡ g.dead
    by None = refl
    by (Some t) = with_session_dead g t.role

-- What the code adds to the shares is what they gain.
use Rattle.std.proofs.Common.{◌≡◌, ◌==◌, ◌∷◌, ◌++◌, [], ℕ, Bool, true, false, List, length, refl, ap, sym, subst, arith}
use Rattle.std.specs.Prelude.{MatchBool, string_bytes}
use Rattle.std.proofs.lemmas.Bool.Decides.{nat_tests}
use Rattle.iv_audit.specs.declared.writing.Share.{Share}
use Rattle.iv_server.specs.Sharing.{HasShare, IsShared, last_end}

is_same : (a b : ℕ) → a ≡ b → (a == b) ≡ true
is_same a b h = grind (arith, nat_tests)

is_other : (a b : ℕ) → (a ≡ b → ⊥) → (a == b) ≡ false
is_other a b h = grind (arith, nat_tests)

pub same_length : {X : Type 0} (xs ys : List X) → xs ≡ ys → length xs ≡ length ys
same_length xs ys h = ap (λ z. length z) h

pub has_share : (s : Share) (old new : List Share) → new ≡ old ++ s ∷ [] → HasShare s.end (string_bytes s.holder) old new
has_share s old new h = record { share = s; added = h; ends = refl; held = refl }

pub HasShare-same : (e n : ℕ) (g h : List ℕ) (old new : List Share) → e ≡ n → g ≡ h → HasShare e g old new → HasShare n h old new
HasShare-same e n g h old new p q s = subst (λ (k : ℕ). HasShare k h old new) p (subst (λ (k : List ℕ). HasShare e k old new) q s)

-- no line is new
pub IsShared-none : (n e : ℕ) (holder : List ℕ) (old : List Share) → e ≡ n → e ≡ last_end old → IsShared n holder old old
IsShared-none n e holder old h t =
    subst (λ (k : ℕ). IsShared k holder old old) h
    (subst (λ (b : Bool). MatchBool b (old ≡ old) (HasShare e holder old old)) (sym (is_same e (last_end old) t)) refl)

-- some are
pub IsShared-one : (n e : ℕ) (holder : List ℕ) (old new : List Share) → e ≡ n → (e ≡ last_end old → ⊥) → HasShare e holder old new
    → IsShared n holder old new
IsShared-one n e holder old new h t s =
    subst (λ (k : ℕ). IsShared k holder old new) h
    (subst (λ (b : Bool). MatchBool b (new ≡ old) (HasShare e holder old new)) (sym (is_other e (last_end old) t)) s)

-- A flag for each place: whether some role reads the circuit there.
use Rattle.std.proofs.Common.{◌≡◌, ℕ, ◌<◌, Bool, true, false, ◌||◌, List, [], ◌∷◌, ◌++◌, length, get_or, set, Option, refl, sym, ap, subst, ◌∙◌, arith, get_or-set_other, get_or-set_same}
use Rattle.std.proofs.lemmas.Bool.Decides.{nat_tests}
use Rattle.std.proofs.Math.ListN.{length-set}
use Rattle.std.specs.Prelude.{◌==◌}
use Rattle.std.specs.List.{AllByRecursion}
use Rattle.iv_circuit.specs.Circuits.{Running}
use Rattle.iv_readers.specs.Held.{AreHeld, Reading, is_held, is_read_at}
use Rattle.iv_readers.proofs.Held.{same_number}
use Rattle.iv_readers.proofs.Left.{read_last}
use Rattle.iv_readers.proofs.Lists.{AllByRecursion-map}
use Rattle.iv_readers.proofs.Partly.{not_same-eq_false}
use Rattle.iv_readers.proofs.PlaceFlags.{lt-is_held}

-- whoever comes reads no other place
is_read_at-push_other : (i : ℕ) (rs : List Reading) (r : Reading) → (r.at == i) ≡ false → is_read_at (rs ++ r ∷ []) i ≡ is_read_at rs i
is_read_at-push_other i [] r e = ap (λ b. b || false) e
is_read_at-push_other i (x ∷ rs) r e = ap (λ b. (x.at == i) || b) (is_read_at-push_other i rs r e)

eq_false-swapped : (i m : ℕ) → (i == m) ≡ false → (m == i) ≡ false
eq_false-swapped i m e = grind (arith, nat_tests)

-- the flags of the places that these read are set, and no others
pub record AreReadFlags (rs : List Reading) (old new : List Bool) : Type 0 where
  pub long : length new ≡ length old
  pub each : (i : ℕ) → get_or new i false ≡ is_read_at rs i

-- one reader more
module _ (rs : List Reading) (r : Reading) (old flags new : List Bool) (h : AreReadFlags rs old flags) (low : r.at < length old) (is : new ≡ set flags r.at true) where
  flag_by : (i : ℕ) (b : Bool) → (i == r.at) ≡ b → get_or new i false ≡ is_read_at (rs ++ r ∷ []) i
  flag_by i true e = subst (λ n. get_or new n false ≡ is_read_at (rs ++ r ∷ []) n) (sym (same_number i r.at e))
      (ap (λ (bs : List Bool). get_or bs r.at false) is ∙ get_or-set_same flags r.at true false (subst (λ n. r.at < n) (sym h.long) low) ∙ sym (read_last rs r))
  flag_by i false e =
      ap (λ (bs : List Bool). get_or bs i false) is ∙ get_or-set_other flags r.at i true false (not_same-eq_false i r.at e) ∙ h.each i
      ∙ sym (is_read_at-push_other i rs r (eq_false-swapped i r.at e))

  length-flags : length (set flags r.at true) ≡ length flags
  length-flags = simp length-set

  pub AreReadFlags-more : AreReadFlags (rs ++ r ∷ []) old new
  AreReadFlags-more = record { long = ap (λ (bs : List Bool). length bs) is ∙ length-flags ∙ h.long; each = λ i. flag_by i (i == r.at) refl }

-- all read places at which something may be held
pub lt-AreHeld : (hs : List (Option Running)) (rs : List Reading) → AreHeld hs rs → AllByRecursion (λ r. r.at < length hs) rs
lt-AreHeld hs rs a = AllByRecursion-map (λ r. is_held hs r.at ≡ true) (λ r. r.at < length hs) rs (λ r h. lt-is_held hs r.at h) a

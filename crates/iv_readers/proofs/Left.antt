-- The circuits that are held are those that some role reads, where a reader comes, turns to another circuit or goes.
use Rattle.std.proofs.Common.{◌≡◌, ℕ, zero, suc, ◌+◌, ◌<◌, ◌≤◌, Bool, true, false, List, [], ◌∷◌, ◌++◌, length, map, get_or, set, Option, refl, sym, ap, subst, ◌∙◌, arith}
use Rattle.std.proofs.lemmas.Bool.Decides.{nat_tests}
use Rattle.std.specs.Prelude.{◌==◌, ◌||◌}
use Rattle.std.specs.List.{AllByRecursion}
use Rattle.iv_circuit.specs.Circuits.{Running}
use Rattle.iv_readers.specs.Changes.{AreHeldAlike}
use Rattle.iv_readers.specs.Held.{AreHeld, AreLeftTo, AreSameBut, AreThoseRead, Reading, held_at, is_held, is_read_at, read_from}
use Rattle.iv_readers.proofs.Held.{AreHeld-set, same_number}
use Rattle.iv_readers.proofs.Lists.{is_self}
use Rattle.iv_readers.proofs.Partly.{not_same-eq_false, readers_held}
use Rattle.iv_readers.proofs.PlaceFlags.{lt-is_held}

clash : false ≡ true → ⊥
clash q = cc

or_right : (b c : Bool) → c ≡ true → (b || c) ≡ true
or_right true c h = refl
or_right false c h = h

or_more : (b c d : Bool) → (b || c) ≡ true → (c ≡ true → d ≡ true) → (b || d) ≡ true
or_more true c d h go = refl
or_more false c d h go = go h

-- ---- who reads a place

-- whoever comes reads the place, and no other is left for it
pub read_more : (i : ℕ) (rs : List Reading) (r : Reading) → is_read_at rs i ≡ true → is_read_at (rs ++ r ∷ []) i ≡ true
read_more i [] r h = absurd (clash h)
read_more i (x ∷ rs) r h = or_more (x.at == i) (is_read_at rs i) (is_read_at (rs ++ r ∷ []) i) h (read_more i rs r)

pub read_last : (rs : List Reading) (r : Reading) → is_read_at (rs ++ r ∷ []) r.at ≡ true
read_last [] r = ap (λ b. b || false) (is_self r.at)
read_last (x ∷ rs) r = or_right (x.at == r.at) (is_read_at (rs ++ r ∷ []) r.at) (read_last rs r)

-- another reader in the place of one reads its place, and that one's alone may be left
pub read_new : (rs : List Reading) (place : ℕ) (new : Reading) → place < length rs → is_read_at (set rs place new) new.at ≡ true
read_new [] place new low = absurd (omega arith)
read_new (x ∷ rs) zero new low = ap (λ b. b || is_read_at rs new.at) (is_self new.at)
read_new (x ∷ rs) (suc place) new low = or_right (x.at == new.at) (is_read_at (set rs place new) new.at) (read_new rs place new (omega arith))

pub read_set : (i : ℕ) (rs : List Reading) (place : ℕ) (r new : Reading) → r ≡ get_or rs place r → (i ≡ r.at → ⊥) → is_read_at rs i ≡ true → is_read_at (set rs place new) i ≡ true
read_set i [] place r new at apart h = absurd (clash h)
read_set i (x ∷ rs) zero r new at apart h = by (x.at == i) refl h
  where
    by : (b : Bool) → (x.at == i) ≡ b → (b || is_read_at rs i) ≡ true → ((new.at == i) || is_read_at rs i) ≡ true
    by true e h' = absurd (apart (sym (ap (λ (y : Reading). y.at) at ∙ same_number x.at i e)))
    by false e h' = or_right (new.at == i) (is_read_at rs i) h'
read_set i (x ∷ rs) (suc place) r new at apart h = or_more (x.at == i) (is_read_at rs i) (is_read_at (set rs place new) i) h (read_set i rs place r new at apart)

all_read : (all rs : List Reading) → ((i : ℕ) → is_read_at rs i ≡ true → is_read_at all i ≡ true) → AllByRecursion (λ r. is_read_at all r.at ≡ true) rs
all_read all [] sub = tt
all_read all (r ∷ rs) sub = (sub r.at (ap (λ b. b || is_read_at rs r.at) (is_self r.at)), all_read all rs (λ i h. sub i (or_right (r.at == i) (is_read_at rs i) h)))

-- the circuit of each is held
pub is_held-AreHeld : (hs : List (Option Running)) (rs : List Reading) (place : ℕ) (r : Reading) → AreHeld hs rs → place < length rs → r ≡ get_or rs place r → is_held hs r.at ≡ true
is_held-AreHeld hs [] place r a low at = absurd (omega arith)
is_held-AreHeld hs (x ∷ rs) zero r a low at = ap (λ (y : Reading). is_held hs y.at) at ∙ a.0
is_held-AreHeld hs (x ∷ rs) (suc place) r a low at = is_held-AreHeld hs rs place r a.1 (omega arith) at

-- each reads its place
pub own_read : (rs : List Reading) → AllByRecursion (λ r. is_read_at rs r.at ≡ true) rs
own_read rs = all_read rs rs (λ i h. h)

-- ---- those that are read are left, and no others

module _ (rs : List Reading) (old new : List (Option Running)) (left : AreLeftTo rs old new) where
  held_by : (xs : List Reading) → AllByRecursion (λ r. is_read_at rs r.at ≡ true) xs → AreHeld old xs → AreHeld new xs
  held_by [] a h = tt
  held_by (r ∷ xs) a h = (left.there r.at a.0 ∙ h.0, held_by xs a.1 h.1)

  shown_by : (xs : List Reading) → AllByRecursion (λ r. is_read_at rs r.at ≡ true) xs → map (read_from new) xs ≡ map (read_from old) xs
  shown_by [] a = refl
  shown_by (r ∷ xs) a =
      let c = left.same r.at a.0 in
      let rest = shown_by xs a.1 in
      λ j. record { role = r.role; rel = r.rel; at = r.at; circuit = c j; since = r.since; opened = r.opened } ∷ rest j

  pub left_those : AreHeld old rs → AreThoseRead rs new
  left_those h = record { held = held_by rs (own_read rs) h; read = left.read }

  pub left_shown : map (read_from new) rs ≡ map (read_from old) rs
  left_shown = shown_by rs (own_read rs)

-- the circuit of one place is dropped unless it is read, where those of all other places are read
module _ (rs : List Reading) (old new : List (Option Running)) (at : ℕ) (kept : is_read_at rs at ≡ true → new ≡ old) (gone : is_read_at rs at ≡ false → is_held new at ≡ false)
    (others : AreSameBut at old new) where
  there_at : (i : ℕ) (b : Bool) → (i == at) ≡ b → is_read_at rs i ≡ true → is_held new i ≡ is_held old i
  there_at i true e h = ap (λ hs. is_held hs i) (kept (subst (λ n. is_read_at rs n ≡ true) (same_number i at e) h))
  there_at i false e h = others.there i (not_same-eq_false i at e)

  same_at : (i : ℕ) (b : Bool) → (i == at) ≡ b → is_read_at rs i ≡ true → held_at new i ≡ held_at old i
  same_at i true e h = ap (λ hs. held_at hs i) (kept (subst (λ n. is_read_at rs n ≡ true) (same_number i at e) h))
  same_at i false e h = others.same i (not_same-eq_false i at e)

  here : (b : Bool) → is_read_at rs at ≡ b → is_held new at ≡ true → is_read_at rs at ≡ true
  here true e h = e
  here false e h = absurd (clash (sym (gone e) ∙ h))

  read_at : (i : ℕ) (b : Bool) → (i == at) ≡ b → ((i ≡ at → ⊥) → is_held old i ≡ true → is_read_at rs i ≡ true) → is_held new i ≡ true → is_read_at rs i ≡ true
  read_at i true e was h =
      let same = same_number i at e in
      subst (λ n. is_read_at rs n ≡ true) (sym same) (here (is_read_at rs at) refl (subst (λ n. is_held new n ≡ true) same h))
  read_at i false e was h = let apart = not_same-eq_false i at e in was apart (sym (others.there i apart) ∙ h)

  pub left_one : ((i : ℕ) → (i ≡ at → ⊥) → is_held old i ≡ true → is_read_at rs i ≡ true) → AreLeftTo rs old new
  left_one was = record {
    there = λ i h. there_at i (i == at) refl h;
    same = λ i h. same_at i (i == at) refl h;
    read = λ i h. read_at i (i == at) refl (was i) h;
  }

  pub one_there : (i : ℕ) → is_read_at rs i ≡ true → is_held new i ≡ is_held old i
  one_there i h = there_at i (i == at) refl h

  pub one_same : (i : ℕ) → is_read_at rs i ≡ true → held_at new i ≡ held_at old i
  one_same i h = same_at i (i == at) refl h

  pub one_read : (i : ℕ) → ((i ≡ at → ⊥) → is_held old i ≡ true → is_read_at rs i ≡ true) → is_held new i ≡ true → is_read_at rs i ≡ true
  one_read i was h = read_at i (i == at) refl was h

-- what is left at a place where the circuit is dropped unless it is read
pub record IsLeftAt (rs : List Reading) (at : ℕ) (old new : List (Option Running)) : Type 0 where
  pub kept : is_read_at rs at ≡ true → new ≡ old
  pub gone : is_read_at rs at ≡ false → is_held new at ≡ false
  pub others : AreSameBut at old new

-- ---- place by place

-- so it is at the places below n, and those that are read are as they were at all
pub record AreLeftBelow (n : ℕ) (rs : List Reading) (old new : List (Option Running)) : Type 0 where
  pub there : (i : ℕ) → is_read_at rs i ≡ true → is_held new i ≡ is_held old i
  pub same : (i : ℕ) → is_read_at rs i ≡ true → held_at new i ≡ held_at old i
  pub read : (i : ℕ) → i < n → is_held new i ≡ true → is_read_at rs i ≡ true

below : (i at : ℕ) → i < at + 1 → (i ≡ at → ⊥) → i < at
below i at low apart = by (i == at) refl
  where
    by : (b : Bool) → (i == at) ≡ b → i < at
    by true e = absurd (apart (same_number i at e))
    by false e = grind (arith, nat_tests)

pub AreLeftBelow-none : (rs : List Reading) (hs : List (Option Running)) → AreLeftBelow 0 rs hs hs
AreLeftBelow-none rs hs = record { there = λ i h. refl; same = λ i h. refl; read = λ i low h. absurd (omega (arith, low)) }

pub AreLeftBelow-next : (rs : List Reading) (old mid new : List (Option Running)) (at : ℕ) → AreLeftBelow at rs old mid → (is_read_at rs at ≡ true → new ≡ mid) → (is_read_at rs at ≡ false → is_held new at ≡ false)
    → AreSameBut at mid new → AreLeftBelow (at + 1) rs old new
AreLeftBelow-next rs old mid new at h kept gone others = record {
  there = λ i r. one_there rs mid new at kept gone others i r ∙ h.there i r;
  same = λ i r. one_same rs mid new at kept gone others i r ∙ h.same i r;
  read = λ i low k. one_read rs mid new at kept gone others i (λ apart was. h.read i (below i at low apart) was) k;
}

pub AreLeftTo-AreLeftBelow : (rs : List Reading) (old new : List (Option Running)) (n : ℕ) → length new ≤ n → AreLeftBelow n rs old new → AreLeftTo rs old new
AreLeftTo-AreLeftBelow rs old new n end h = record {
  there = h.there;
  same = h.same;
  read = λ i k. h.read i (let low = lt-is_held new i k in omega (arith, low, end)) k;
}

-- ---- one more is held

module _ (at : ℕ) (hs new : List (Option Running)) (others : AreSameBut at hs new) (rs : List Reading) (was : AreThoseRead rs hs) where
  -- and one more reads it
  pub read_added : (r : Reading) → r.at ≡ at → (i : ℕ) → is_held new i ≡ true → is_read_at (rs ++ r ∷ []) i ≡ true
  read_added r is i h = by (i == at) refl
    where
      by : (b : Bool) → (i == at) ≡ b → is_read_at (rs ++ r ∷ []) i ≡ true
      by true e = subst (λ n. is_read_at (rs ++ r ∷ []) n ≡ true) (is ∙ sym (same_number i at e)) (read_last rs r)
      by false e = read_more i rs r (was.read i (sym (others.there i (not_same-eq_false i at e)) ∙ h))

  -- and it goes again
  pub read_again : is_held new at ≡ false → (i : ℕ) → is_held new i ≡ true → is_read_at rs i ≡ true
  read_again gone i h = by (i == at) refl
    where
      by : (b : Bool) → (i == at) ≡ b → is_read_at rs i ≡ true
      by true e = absurd (clash (sym gone ∙ sym (ap (is_held new) (same_number i at e)) ∙ h))
      by false e = was.read i (sym (others.there i (not_same-eq_false i at e)) ∙ h)

  -- and a reader turns to it
  pub read_turned : (place : ℕ) (r turned : Reading) → place < length rs → r ≡ get_or rs place r → turned.at ≡ at → (i : ℕ) → (i ≡ r.at → ⊥) → is_held new i ≡ true → is_read_at (set rs place turned) i ≡ true
  read_turned place r turned low here is i apart h = by (i == at) refl
    where
      by : (b : Bool) → (i == at) ≡ b → is_read_at (set rs place turned) i ≡ true
      by true e = subst (λ n. is_read_at (set rs place turned) n ≡ true) (is ∙ sym (same_number i at e)) (read_new rs place turned low)
      by false e = read_set i rs place r turned here apart (was.read i (sym (others.there i (not_same-eq_false i at e)) ∙ h))

module _ (rs : List Reading) (hs : List (Option Running)) (place : ℕ) (r turned : Reading) (low : place < length rs) (here : r ≡ get_or rs place r) where
  abbrev now : List Reading
  now = set rs place turned

  -- a reader that stays at its place
  read_same : turned.at ≡ r.at → (i : ℕ) → is_read_at rs i ≡ true → is_read_at now i ≡ true
  read_same same i h = by (i == r.at) refl
    where
      by : (b : Bool) → (i == r.at) ≡ b → is_read_at now i ≡ true
      by true e = subst (λ n. is_read_at now n ≡ true) (same ∙ sym (same_number i r.at e)) (read_new rs place turned low)
      by false e = read_set i rs place r turned here (not_same-eq_false i r.at e) h

  pub opened_those : turned.at ≡ r.at → AreThoseRead rs hs → AreThoseRead now hs
  opened_those same was = record {
    held = AreHeld-set hs rs place turned was.held (ap (is_held hs) same ∙ is_held-AreHeld hs rs place r was.held low here);
    read = λ i h. read_same same i (was.read i h);
  }

  -- a reader that turns to a circuit that is there, and leaves its own
  module _ (new : List (Option Running)) (before : ℕ) (own : before ≡ r.at) (left : IsLeftAt now before hs new) where
    still : AreThoseRead rs hs → AreLeftTo now hs new
    still was = left_one now hs new before left.kept left.gone left.others
        (λ i apart h. read_set i rs place r turned here (λ e. apart (e ∙ sym own)) (was.read i h))

    pub turned_those : is_held hs turned.at ≡ true → AreThoseRead rs hs → AreThoseRead now new
    turned_those there was = left_those now hs new (still was) (AreHeld-set hs rs place turned was.held there)

    pub turned_shown : AreThoseRead rs hs → map (read_from new) now ≡ map (read_from hs) now
    turned_shown was = left_shown now hs new (still was)

-- a reader that turns to a new circuit, and leaves its own
module _ (at : ℕ) (hs mid : List (Option Running)) (others : AreSameBut at hs mid) (rs : List Reading) (was : AreThoseRead rs hs)
    (place : ℕ) (r turned : Reading) (low : place < length rs) (here : r ≡ get_or rs place r) (is : turned.at ≡ at)
    (new : List (Option Running)) (before : ℕ) (own : before ≡ r.at) (left : IsLeftAt (set rs place turned) before mid new) where
  renewed_left : AreLeftTo (set rs place turned) mid new
  renewed_left = left_one (set rs place turned) mid new before left.kept left.gone left.others
      (λ i apart h. read_turned at hs mid others rs was place r turned low here is i (λ e. apart (e ∙ sym own)) h)

  pub renewed_those : AreHeld mid rs → is_held mid turned.at ≡ true → AreThoseRead (set rs place turned) new
  renewed_those held there = left_those (set rs place turned) mid new renewed_left (AreHeld-set mid rs place turned held there)

  pub renewed_shown : map (read_from new) (set rs place turned) ≡ map (read_from mid) (set rs place turned)
  renewed_shown = left_shown (set rs place turned) mid new renewed_left

-- those that are held are held still
pub AreThoseRead-AreHeldAlike : (rs : List Reading) (hs new : List (Option Running)) → AreHeldAlike hs new → AreThoseRead rs hs → AreThoseRead rs new
AreThoseRead-AreHeldAlike rs hs new alike was = record { held = readers_held hs new alike rs was.held; read = λ i h. was.read i (sym (alike i) ∙ h) }

-- the same twice
pub AreSameBut-trans : (at : ℕ) (hs mid new : List (Option Running)) → AreSameBut at hs mid → AreSameBut at mid new → AreSameBut at hs new
AreSameBut-trans at hs mid new a b = record { there = λ i apart. b.there i apart ∙ a.there i apart; same = λ i apart. b.same i apart ∙ a.same i apart }

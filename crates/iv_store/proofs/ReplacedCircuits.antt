-- Circuits in whose places others of the same roles and relations stand.
use Rattle.std.proofs.Common.{◌≡◌, ℕ, suc, ◌+◌, cond, ◌&&◌, not, List, [], ◌∷◌, length, None, Some, refl, sym, ap, subst, ◌∙◌, true, arith}
use Rattle.std.specs.Prelude.{◌==◌, nat_lt, position}
use Rattle.std.specs.List.{AllByRecursion, list_any, position_or_len}
use Rattle.iv_machine.specs.State.{Frame}
use Rattle.iv_readers.specs.Each.{Each, HaveBecome}
use Rattle.iv_readers.specs.Readers.{RoleCircuit, is_for}
use Rattle.iv_store.specs.Store.{is_read}
use Rattle.iv_database.specs.Database.{session_acts_as}

-- the same role and relation
pub record IsSameReader (k n : RoleCircuit) : Type 0 where
  pub role : n.role ≡ k.role
  pub rel : n.rel ≡ k.rel

module _ {B : Type 0} (R : RoleCircuit → B → RoleCircuit → Type 0) (same : (k : RoleCircuit) (b : B) (n : RoleCircuit) → R k b n → IsSameReader k n) where
  -- each place has the reader that it had
  pub readers_same : (ks : List RoleCircuit) (bs : List B) (ns : List RoleCircuit) → length bs ≡ length ks → HaveBecome R (length bs) ks bs ns → Each IsSameReader ks ns
  readers_same [] [] ns l h = subst (Each IsSameReader []) (sym h) tt
  readers_same [] (b ∷ bs) ns l h = absurd h
  readers_same (k ∷ ks) [] ns l h = absurd (omega arith)
  readers_same (k ∷ ks) (b ∷ bs) [] l h = absurd h
  readers_same (k ∷ ks) (b ∷ bs) (n ∷ ns) l h = (same k b n h.0, readers_same ks bs ns (omega arith) h.1)

module _ (role rel : ℕ) where
  pub one_same : (k n : RoleCircuit) → IsSameReader k n → is_for role rel n ≡ is_for role rel k
  one_same k n h = λ i. (h.role i == role) && (h.rel i == rel)

  first_same : (ks ns : List RoleCircuit) → Each IsSameReader ks ns → (position_or_len (is_for role rel) ns ≡ position_or_len (is_for role rel) ks) × (length ns ≡ length ks)
  first_same [] [] h = (refl, refl)
  first_same [] (n ∷ ns) h = absurd h
  first_same (k ∷ ks) [] h = absurd h
  first_same (k ∷ ks) (n ∷ ns) h =
      let r = first_same ks ns h.1 in
      ((λ i. cond (not (one_same k n h.0 i)) (1 + r.0 i) 0), ap suc r.1)

  -- so a role and a relation have the place that they had
  pub place_same : (ks ns : List RoleCircuit) → Each IsSameReader ks ns → position (is_for role rel) ns ≡ position (is_for role rel) ks
  place_same ks ns h = let r = first_same ks ns h in λ i. cond (nat_lt (r.0 i) (r.1 i)) (Some (r.0 i)) None

-- and each is read as before
pub AllByRecursion-IsSameReader : (f : Frame) (ks ns : List RoleCircuit) → Each IsSameReader ks ns → AllByRecursion (λ k. is_read f k ≡ true) ks → AllByRecursion (λ k. is_read f k ≡ true) ns
AllByRecursion-IsSameReader f [] [] h a = tt
AllByRecursion-IsSameReader f [] (n ∷ ns) h a = absurd h
AllByRecursion-IsSameReader f (k ∷ ks) [] h a = absurd h
AllByRecursion-IsSameReader f (k ∷ ks) (n ∷ ns) h a =
    ((λ i. list_any (λ s. (s.rel == h.0.rel i) && session_acts_as f s.session (h.0.role i)) f.subscriptions) ∙ a.0, AllByRecursion-IsSameReader f ks ns h.1 a.1)

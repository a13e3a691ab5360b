-- Soundness does not depend on the order of rows in a table: of the states behind an engine all are sound, or none.
use Rattle.std.proofs.Common.{◌≡◌, ◌∙◌, ℕ, cond, List, [], ◌∷◌, pos, Option, Some, None, refl, ap, subst, sym}
use Rattle.std.specs.Prelude.{is_some}
use Rattle.std.specs.List.{AllByRecursion}
use Rattle.iv_rows.specs.Columns.{Column, accepts, kinds_of}
use Rattle.iv_zset.specs.Limits.{copies}
use Rattle.iv_algebra.specs.Counting.{SameTables}
use Rattle.iv_algebra.specs.Plans.{Lists}
use Rattle.iv_algebra.specs.Shapes.{Scan}
use Rattle.iv_algebra.proofs.SameCounts.{limits_same}
use Rattle.iv_bind.specs.Catalogs.{schema_of}
use Rattle.iv_access.specs.Policies.{allowed, may_see}
use Rattle.iv_machine.specs.Machine.{ending, first_cause}
use Rattle.iv_machine.specs.Sound.{HasKinds, IsSoundState}
use Rattle.iv_machine.specs.State.{Frame, State, Subscription, actor, missing_for, plan_at}
use Rattle.iv_database.proofs.RowKinds.{AllPass-always, holds-AllPass, HasKinds-Counts}
use Rattle.iv_store.specs.Engine.{Engine, IsBehind}
use Rattle.iv_store.proofs.VisibleRows.{copies_filter}

abbrev state_of : Frame → Lists → State
state_of f S = record { frame = f; rows = S }

-- ---- two states with one frame

module _ (f : Frame) (S T : Lists) (same : SameTables S T) where
  seen_same : (role : ℕ) → SameTables (allowed f.rights role S) (allowed f.rights role T)
  seen_same role t q =
      copies_filter (may_see f.rights role t) q (S t)
      ∙ ap (λ c. cond (may_see f.rights role t q) c 0) (same t q)
      ∙ sym (copies_filter (may_see f.rights role t) q (T t))

  ends_same : (e : Subscription) → ending (state_of f S) e ≡ ending (state_of f T) e
  ends_same e = let role = actor f e.session in
      ap (first_cause (is_some (missing_for f role e.rel))) (limits_same (allowed f.rights role S) (allowed f.rights role T) (seen_same role) f.cap (plan_at f.catalog e.rel))

  served_same : (es : List Subscription) → AllByRecursion (λ e. ending (state_of f S) e ≡ None) es → AllByRecursion (λ e. ending (state_of f T) e ≡ None) es
  served_same [] h = tt
  served_same (e ∷ es) h = (sym (ends_same e) ∙ h.0, served_same es h.1)

  kinds_same : (o : Option (List Column)) (t : ℕ) → HasKinds o (S t) → HasKinds o (T t)
  kinds_same None t h = HasKinds-Counts None [] (T t) refl (λ q. ap pos (sym (ap (copies q) h) ∙ same t q))
  kinds_same (Some columns) t h = AllPass-always (accepts (kinds_of columns)) (T t) (λ q n. holds-AllPass (accepts (kinds_of columns)) (S t) q h (λ e. n (sym (same t q) ∙ e)))

  sound_in : IsSoundState (state_of f S) → IsSoundState (state_of f T)
  sound_in k = record {
    numbers = k.numbers;
    ordered = k.ordered;
    readers = k.readers;
    served = served_same f.subscriptions k.served;
    names = k.names;
    numbered = k.numbered;
    scanned = k.scanned;
    roles = k.roles;
    limits = λ t. sym (limits_same S T same f.cap (Scan t)) ∙ k.limits t;
    kinds = λ t. kinds_same (schema_of f.catalog t) t (k.kinds t);
  }

-- ---- two states behind an engine

-- rows alone differ, and those in their order alone
sound_alike : (s t : State) → s.frame ≡ t.frame → SameTables s.rows t.rows → IsSoundState s → IsSoundState t
sound_alike s t e h k = subst (λ f. IsSoundState (state_of f t.rows)) e (sound_in s.frame s.rows t.rows h k)

same_count : (m n : ℕ) → pos m ≡ pos n → m ≡ n
same_count m n h = cc

pub IsSoundState-IsBehind : (s t : State) (e : Engine) → IsBehind s e → IsBehind t e → IsSoundState s → IsSoundState t
IsSoundState-IsBehind s t e b d k = sound_alike s t (b.frame ∙ sym d.frame) (λ n q. same_count (copies q (s.rows n)) (copies q (t.rows n)) (sym (b.rows n q) ∙ d.rows n q)) k

use Rattle.std.proofs.Common.{◌≡◌, ◌∙◌, ℕ, Bool, true, false, cond, List, [], ◌∷◌, ap, refl, sym, arith}
use Rattle.std.proofs.lemmas.Bool.Decides.{nat_tests}
use Rattle.std.specs.Prelude.{◌==◌, ◌&&◌, filter}
use Rattle.std.specs.List.{list_any}
use Rattle.iv_zset.specs.Limits.{copies}
use Rattle.iv_algebra.specs.Counting.{SameCopies}
use Rattle.iv_algebra.specs.Plans.{Lists}
use Rattle.iv_access.specs.declared.privilege.Privilege.TheVariants.{Select}
use Rattle.iv_access.specs.Policies.{allowed, may_see}
use Rattle.iv_access.specs.Privileges.{has, is_for, privilege_eq}
use Rattle.iv_access.specs.Rights.{Grant, Rights}
use Rattle.tests_machine.proofs.TextValues.{texts_compute}
use Rattle.tests_machine.specs.OfLearning.{left_by, puts}
use Rattle.tests_machine.specs.OfSoundness.{crowded, emptied, filled, forgetful, names_bob, unread, watch, watched}
use Rattle.tests_machine.specs.Worked.{Row, commands, of_ann}
use Rattle.tests_machine.proofs.examples.soundness_is_needed.Goals as goal

differs : false ≡ true → ⊥
differs h = cc

same_number : (m n : ℕ) → (m == n) ≡ true → m ≡ n
same_number m n h = grind (arith, nat_tests)

-- where nothing is granted, ann has select on no table
none_granted : (r : Rights) (table : ℕ) → r.grants ≡ [] → has r 1 Select table ≡ false
none_granted r table e = ap (λ gs. list_any (λ (g : Grant). table == g.rel && (privilege_eq Select g.privilege && is_for r 1 g.grantee)) gs) e

sees_none : (r u : Rights) (S T : Lists) → r.grants ≡ [] → (table : ℕ) → has r 1 Select table ≡ true → SameCopies (allowed r 1 S table) (allowed u 1 T table)
sees_none r u S T e table h = absurd (differs (sym (none_granted r table e) ∙ h))

-- where she has none on notes, she sees no other rows of it
but_notes : (r : Rights) (S T : Lists) → has r 1 Select 0 ≡ false → ((table : ℕ) → (table == 0) ≡ false → S table ≡ T table) → (table : ℕ) → has r 1 Select table ≡ true
    → SameCopies (allowed r 1 S table) (allowed r 1 T table)
but_notes r S T lacks same table h = by (table == 0) refl
  where
    by : (b : Bool) → (table == 0) ≡ b → SameCopies (allowed r 1 S table) (allowed r 1 T table)
    by true k = absurd (differs (sym lacks ∙ ap (has r 1 Select) (sym (same_number table 0 k)) ∙ h))
    by false k = λ q. ap (λ rows. copies q (filter (may_see r 1 table) rows)) (same table k)

held_apart : (rows : List Row) (table : ℕ) → (table == 0) ≡ false → cond (table == 0) rows [] ≡ []
held_apart rows table k = ap (λ b. cond b rows []) k

pub returns-clause-told : goal.returns-clause-told
unfolding texts_compute
returns-clause-told c = (
  record { frame = refl; rows = sees_none unread.frame.rights emptied.frame.rights unread.rows emptied.rows refl },
  (
    refl,
    λ h. sees_none (left_by unread names_bob).frame.rights (left_by emptied names_bob).frame.rights (left_by unread names_bob).rows (left_by emptied names_bob).rows refl,
    tt,
  ),
  (refl, refl),
)

pub returns-clause-later : goal.returns-clause-later
unfolding texts_compute
returns-clause-later c = (
  record { frame = refl; rows = but_notes crowded.frame.rights crowded.rows watched.rows refl (held_apart (of_ann 1 ∷ of_ann 2 ∷ [])) },
  (refl, refl),
  refl,
  refl,
  refl,
)

pub returns-clause-sound : goal.returns-clause-sound
returns-clause-sound c = c.steps_keep_sound.ensures.run 1 (commands watch)

pub returns-clause-subscribe : goal.returns-clause-subscribe
unfolding texts_compute
returns-clause-subscribe c = (
  record { frame = refl; rows = but_notes filled.frame.rights filled.rows forgetful.rows refl (held_apart (of_ann 1 ∷ of_ann 2 ∷ [])) },
  refl,
  refl,
)

pub returns-clause-quiet : goal.returns-clause-quiet
unfolding texts_compute
returns-clause-quiet c = (sees_none unread.frame.rights (left_by unread puts).frame.rights unread.rows (left_by unread puts).rows refl, refl, refl, refl)

pub returns-clause-readers : goal.returns-clause-readers
unfolding texts_compute
returns-clause-readers c = (refl, refl)

pub returns-clause-ordered : goal.returns-clause-ordered
unfolding texts_compute
returns-clause-ordered c = refl

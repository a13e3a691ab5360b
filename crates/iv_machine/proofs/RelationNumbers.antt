-- Relations and their guards are numbered alike.
use Rattle.std.proofs.Common.{◌≡◌, ℕ, zero, suc, ◌+◌, not, List, [], ◌∷◌, ◌++◌, length, Option, Some, None, Result, Ok, Err, ap, ◌∙◌, sym, refl, arith, length-append}
use Rattle.iv_bind.specs.Catalogs.{BoundQuery, Held, Table, View}
use Rattle.iv_bind.specs.Catalogs as catalogs
use Rattle.iv_bind.specs.BoundTexts.{TextFault, FaultAt, bound_query}
use Rattle.iv_access.specs.Access.{role_number}
use Rattle.iv_access.specs.Rights.{Name, Guard}
use Rattle.iv_access.specs.Changing.{with_relation, changed_at}
use Rattle.iv_machine.specs.Act.{Act, create_table, create_view, row_security, create_policy, drop_policy, Command, Refusal, no_session}
use Rattle.iv_machine.specs.State.{State, Frame, is_open, actor, start, rel_of}
use Rattle.iv_machine.specs.Refusing.{test, or_else, first, administrator, known_role, free_relation, full, views, bad_text, refusal, frame_refusal, tests_by}
use Rattle.iv_machine.specs.Changing.{with_held, view_held, after_frame}
use Rattle.iv_machine.specs.Machine.{outcome, step, run}
use Rattle.iv_machine.specs.Numbered.{AreNumbered, IsNumbered}
use Rattle.iv_machine.proofs.OpenSubscriptions.{refusal-None, or_else-None}

one_more : (n : ℕ) (es : List catalogs.CatalogEntry) (e : catalogs.CatalogEntry) → AreNumbered n es → e.rel ≡ n + length es → AreNumbered n (es ++ e ∷ [])
one_more n [] e h k = let r : n + 0 ≡ n = omega arith in (k ∙ r, tt)
one_more n (x ∷ es) e h k = let r : n + length (x ∷ es) ≡ suc n + length es = omega arith in (h.0, one_more (suc n) es e h.1 (k ∙ r))

longer : {A : Type 0} (xs : List A) (x : A) → length (xs ++ x ∷ []) ≡ length xs + 1
longer xs x = length-append xs (x ∷ [])

-- a relation more has the next number, and so has its guard
related : (f : Frame) (name : Name) (owner : ℕ) (held : Held) → IsNumbered f
    → AreNumbered 0 (with_held name (Some held) f.catalog) × (length (with_relation owner f.rights).guards ≡ length (with_held name (Some held) f.catalog))
related f name owner held h = (
  one_more 0 f.catalog _ h.relations (let r : length f.catalog ≡ 0 + length f.catalog = omega arith in r),
  longer f.rights.guards _ ∙ ap (λ n. n + 1) h.guards ∙ sym (longer f.catalog _),
)

viewed : (f : Frame) (name : Name) (owner : ℕ) (r : Result BoundQuery TextFault) → bad_text r ≡ None → IsNumbered f
    → AreNumbered 0 (with_held name (view_held r) f.catalog) × (length (with_relation owner f.rights).guards ≡ length (with_held name (view_held r) f.catalog))
viewed f name owner (Ok answer) b h = related f name owner (View answer) h
viewed f name owner (Err (FaultAt place why)) b h = cc

pub length-changed_at : (n : ℕ) (change : Guard → Guard) (gs : List Guard) → length (changed_at n change gs) ≡ length gs
length-changed_at n change [] = refl
length-changed_at zero change (g ∷ gs) = refl
length-changed_at (suc n) change (g ∷ gs) = ap suc (length-changed_at n change gs)

fourth : (a b c d e : Option Refusal) → or_else a (or_else b (or_else c (or_else d e))) ≡ None → d ≡ None
fourth a b c d e h = (or_else-None d e (or_else-None c _ (or_else-None b _ (or_else-None a _ h).1).1).1).0

pub IsNumbered-after_frame : (f : Frame) (n : ℕ) (act : Act) → frame_refusal f n act ≡ None → IsNumbered f → IsNumbered (after_frame f n act)
IsNumbered-after_frame f n (create_table name owner columns) r h = let a = related f name (role_number f.rights owner) (Table columns) h in record { relations = a.0; guards = a.1 }
IsNumbered-after_frame f n (create_view name owner query) r h =
    let later = (or_else-None (test (not (is_open f n)) no_session) (first (tests_by f n (actor f n) (create_view name owner query))) r).1 in
    let g = fourth (administrator (actor f n)) (known_role f owner) (free_relation f name) (bad_text (bound_query f.catalog query)) (first (full 64 (views f) ∷ [])) later in
    let a = viewed f name (role_number f.rights owner) (bound_query f.catalog query) g h in
    record { relations = a.0; guards = a.1 }
IsNumbered-after_frame f n (row_security rel enable force) r h = record { relations = h.relations; guards = length-changed_at (rel_of f.catalog rel) _ f.rights.guards ∙ h.guards }
IsNumbered-after_frame f n (create_policy p) r h = record { relations = h.relations; guards = length-changed_at (rel_of f.catalog p.rel) _ f.rights.guards ∙ h.guards }
IsNumbered-after_frame f n (drop_policy rel name) r h = record { relations = h.relations; guards = length-changed_at (rel_of f.catalog rel) _ f.rights.guards ∙ h.guards }
IsNumbered-after_frame f n _ r h = record { relations = h.relations; guards = h.guards }

outcome_numbered : (s : State) (c : Command) (o : Option Refusal) → refusal s c.session c.act ≡ o → IsNumbered s.frame → IsNumbered (outcome s c o).state.frame
outcome_numbered s c None r h =
    let a = IsNumbered-after_frame s.frame c.session c.act (refusal-None s c.session c.act r).0 h in
    record { relations = a.relations; guards = a.guards }
outcome_numbered s c (Some x) r h = h

pub run_numbered : (s : State) (cs : List Command) → IsNumbered s.frame → IsNumbered (run s cs).state.frame
run_numbered s [] h = h
run_numbered s (c ∷ cs) h = run_numbered (step s c).state cs (outcome_numbered s c (refusal s c.session c.act) refl h)

pub IsNumbered-start : (cap : ℕ) → IsNumbered (start cap).frame
IsNumbered-start cap = record { relations = tt; guards = refl }

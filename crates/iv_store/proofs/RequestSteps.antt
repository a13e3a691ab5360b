-- A request as a step of the machine.
use Rattle.std.proofs.Common.{◌≡◌, ℕ, ◌<◌, Bool, true, cond, not, List, [], ◌∷◌, ◌++◌, length, map, Option, None, Some, refl, sym, ap, subst, ◌∙◌}
use Rattle.std.specs.Prelude.{Result, Ok as OkResult, Err, is_some, filter, flat_map}
use Rattle.std.specs.List.{AllByRecursion}
use Rattle.std.specs.Result.{IsErrAnd}
use Rattle.iv_rows.specs.Columns.{Column}
use Rattle.iv_zset.specs.Weights.{weight_of}
use Rattle.iv_algebra.specs.Plans.{Lists}
use Rattle.iv_bind.specs.Catalogs as catalogs
use Rattle.iv_access.specs.declared.privilege.Privilege.{Privilege}
use Rattle.iv_access.specs.Rights.{Name}
use Rattle.iv_machine.specs.Act as machine
use Rattle.iv_machine.specs.Act.{Act, begin, create_role, create_table, create_view, grant}
use Rattle.iv_machine.specs.State.{State, Subscription, actor, subscription_of}
use Rattle.iv_machine.specs.Refusing.{refusal, or_else, frame_refusal, rows_refusal}
use Rattle.iv_machine.specs.Changing.{after}
use Rattle.iv_machine.specs.declared.Cause.{Cause}
use Rattle.iv_machine.specs.Machine.{changes, line_for, lines_told as machine_line, ending, ending_by, settled, reply_to, difference}
use Rattle.iv_store.specs.Answering.{IsAccepted, IsPlain, IsRefused, IsStep, change_line, seen, sent}
use Rattle.iv_store.specs.Counting.{AreCounted, TurnsRounds}
use Rattle.iv_store.specs.Store.{database_of, with_database, Store, IsOpen, IsSoundStore, IsStored, IsWithin, at, frame_of, may_read, shown_rows}
use Rattle.iv_store.specs.Next.{kept_after}
use Rattle.iv_database.specs.Database as database
use Rattle.iv_database.specs.Database.{Database}
use Rattle.iv_database.specs.Next as changed
use Rattle.iv_database.specs.Next.{IsDone}
use Rattle.iv_store.specs.Rounds.{rounds_of}
use Rattle.iv_store.specs.Engine.{IsBehind, Engine}
use Rattle.iv_database.specs.Stands.{Stands}
use Rattle.iv_command.specs.Views.{line_of, refusal_of, reply_of}
use Rattle.iv_command.specs.declared.command.Refusal.{Refusal}
use Rattle.iv_command.specs.declared.command.Reply.{Reply}
use Rattle.iv_command.specs.declared.command.Reply.TheVariants.{Ok}
use Rattle.iv_command.specs.declared.answer.Answer.{Answer}
use Rattle.iv_command.specs.declared.stop.Stop.{Stop}
use Rattle.iv_command.specs.declared.stop.Stop.TheVariants.{Refused, Memory}
use Rattle.iv_store.proofs.SubscriptionRounds.{AllByRecursion-IsBeside, rounds_of-same_circuits, those_counted}
use Rattle.iv_database.proofs.PolicyTests.{IsErrAnd-gives}
use Rattle.iv_database.proofs.TablesOfCatalog.{rows_of-with_table}
use Rattle.iv_store.proofs.SubscriptionViews.{cause_for, difference-itself, subscription_of-each, ending-is_within, shown_is}
use Rattle.iv_readers.proofs.Lists.{AllByRecursion-map, AllByRecursion-zip}
use Rattle.iv_store.proofs.Sound.{all_shown, begin_sound, begin_unmoved, grant_sound, grant_unmoved, role_sound, role_unmoved, table_sound, table_unmoved, view_sound, view_unmoved}
use Rattle.iv_store.proofs.UnmovedSubscriptions.{IsUnmoved}

-- ---- lists of subscriptions

pub flat_map-each_nothing : (g : Subscription → List machine.Line) (es : List Subscription) → AllByRecursion (λ s. g s ≡ []) es → flat_map g es ≡ []
flat_map-each_nothing g [] a = refl
flat_map-each_nothing g (s ∷ es) a = λ i. a.0 i ++ flat_map-each_nothing g es a.1 i

pub flat_map-each_same : (g k : Subscription → List machine.Line) (es : List Subscription) → AllByRecursion (λ s. g s ≡ k s) es → flat_map g es ≡ flat_map k es
flat_map-each_same g k [] a = refl
flat_map-each_same g k (s ∷ es) a = λ i. a.0 i ++ flat_map-each_same g k es a.1 i

pub keep_each : (p : Subscription → Bool) (es : List Subscription) → AllByRecursion (λ s. p s ≡ true) es → filter p es ≡ es
keep_each p [] a = refl
keep_each p (s ∷ es) a = (λ i. cond (a.0 i) (s ∷ filter p es) (filter p es)) ∙ ap (λ xs. s ∷ xs) (keep_each p es a.1)

-- a subscription by its number, of a relation that is there
pub record IsShown (e : Store) (s : Subscription) : Type 0 where
  pub found : subscription_of e.subscriptions s.number ≡ Some s
  pub known : s.rel < length e.catalog

pub AllByRecursion-IsShown : (e : Store) → IsStored e → AllByRecursion (IsShown e) e.subscriptions
AllByRecursion-IsShown e h = AllByRecursion-zip (λ s. subscription_of e.subscriptions s.number ≡ Some s) (IsOpen e) (IsShown e) e.subscriptions (λ s f o. record { found = f; known = o.known }) (subscription_of-each e.subscriptions h.numbers.unique) h.shows

-- none ends where each may be read
pub ending-Stands : (c : Store) (T : Lists) → IsSoundStore c → Stands T c.tables → AllByRecursion (λ s. ending (at c T) s ≡ None) c.subscriptions
ending-Stands c T h stands = AllByRecursion-zip (λ s. may_read c s ≡ true) (IsWithin c) (λ s. ending (at c T) s ≡ None) c.subscriptions
    (λ s r w. ending-is_within c T s (w T stands) ∙ ap cause_for r) h.served h.within

pub filter-Stands : (c : Store) (T : Lists) → IsSoundStore c → Stands T c.tables → filter (λ s. not (is_some (ending (at c T) s))) c.subscriptions ≡ c.subscriptions
filter-Stands c T h stands = keep_each (λ s. not (is_some (ending (at c T) s))) c.subscriptions
    (AllByRecursion-map (λ s. ending (at c T) s ≡ None) (λ s. not (is_some (ending (at c T) s)) ≡ true) c.subscriptions (λ s k. ap (λ o. not (is_some o)) k) (ending-Stands c T h stands))

-- ---- the lines of subscriptions that stay open

module _ (e d : Store) (T U : Lists) (h : IsStored e) (ends : Subscription → Option Cause) where
  abbrev c : Store
  c = record d { subscriptions = e.subscriptions }

  one_line : (s : Subscription) → IsShown e s → ends s ≡ None → line_for (at e T) (at c U) ends s ≡ change_line e c T U s
  one_line s x k = λ i. machine_line (k i) s (difference (shown_is e T s x.found i) (shown_is c U s x.found i))

  pub change_lines : AllByRecursion (λ s. ends s ≡ None) e.subscriptions → flat_map (line_for (at e T) (at c U) ends) e.subscriptions ≡ flat_map (change_line e c T U) e.subscriptions
  change_lines k = flat_map-each_same (line_for (at e T) (at c U) ends) (change_line e c T U) e.subscriptions
      (AllByRecursion-zip (IsShown e) (λ s. ends s ≡ None) (λ s. line_for (at e T) (at c U) ends s ≡ change_line e c T U s) e.subscriptions one_line
      (AllByRecursion-IsShown e h) k)

-- ---- a request that changes no row, and opens and ends no subscription

pub record KeepsRows (e : Store) (n : ℕ) (act : Act) : Type 0 where
  pub rows : (T : Lists) → rows_refusal (at e T) n act ≡ None
  pub after : (T : Lists) → IsStored e → after (at e T) n act ≡ at (kept_after e n act) T
  pub ends : (s : State) → ending_by act s ≡ ending s
  pub reply : machine.done ≡ reply_to (frame_of e) act
  pub tables : (T : Lists) → Stands T e.tables → Stands T (kept_after e n act).tables
  pub sound : frame_refusal (frame_of e) n act ≡ None → IsSoundStore e → IsSoundStore (kept_after e n act)
  pub counts : (old new : Engine) (role rel k : ℕ) → TurnsRounds old new act role rel k k

or_nothing : (o p : Option machine.Refusal) → p ≡ None → or_else o p ≡ o
or_nothing None p h = h
or_nothing (Some r) p h = refl

module _ (e : Store) (n : ℕ) (act : Act) (q : KeepsRows e n act) (h : IsSoundStore e) (T : Lists) (stands : Stands T e.tables) where
  abbrev left : Store
  left = kept_after e n act

  pub decided : refusal (at e T) n act ≡ frame_refusal (frame_of e) n act
  decided = or_nothing (frame_refusal (frame_of e) n act) (rows_refusal (at e T) n act) (q.rows T)

  module _ (passed : frame_refusal (frame_of e) n act ≡ None) where
    -- each subscription is sent what it shows now and did not show before
    pub changed_sent : sent e T n act ≡ flat_map (change_line e left T T) e.subscriptions
    changed_sent = (λ i. changes act (at e T) (q.after T h.stored i) (settled act (q.after T h.stored i)))
        ∙ (λ i. flat_map (line_for (at e T) (record (at left T) { frame = record (frame_of left) { subscriptions = filter (λ s. not (is_some (q.ends (at left T) i s))) left.subscriptions } }) (q.ends (at left T) i)) left.subscriptions)
        ∙ (λ i. flat_map (line_for (at e T) (record (at left T) { frame = record (frame_of left) { subscriptions = filter-Stands left T (q.sound passed h) (q.tables T stands) i } }) (ending (at left T))) left.subscriptions)
        ∙ change_lines e left T T h.stored (ending (at left T)) (ending-Stands left T (q.sound passed h) (q.tables T stands))

    pub changed_left : settled act (after (at e T) n act) ≡ at left T
    changed_left = ap (settled act) (q.after T h.stored)
        ∙ (λ i. record (at left T) { frame = record (frame_of left) { subscriptions = filter (λ s. not (is_some (q.ends (at left T) i s))) left.subscriptions } })
        ∙ (λ i. record (at left T) { frame = record (frame_of left) { subscriptions = filter-Stands left T (q.sound passed h) (q.tables T stands) i } })

-- each reader is the role that it was
abbrev pub AreActors : Store → Store → Type 0
AreActors e d = AllByRecursion (λ s. actor (frame_of d) s.session ≡ actor (frame_of e) s.session) e.subscriptions

-- and nothing that is shown
pub record IsQuiet (e : Store) (n : ℕ) (act : Act) : Type 0 where
  pub keeps : KeepsRows e n act
  pub acts : frame_refusal (frame_of e) n act ≡ None → IsSoundStore e → AreActors e (kept_after e n act)
  pub shows : frame_refusal (frame_of e) n act ≡ None → IsSoundStore e → (T : Lists) → Stands T e.tables → AllByRecursion (λ s. shown_rows (kept_after e n act) T s ≡ shown_rows e T s) e.subscriptions

quiet_lines : (e c : Store) (T : Lists) (es : List Subscription) → AllByRecursion (λ s. shown_rows c T s ≡ shown_rows e T s) es → flat_map (change_line e c T T) es ≡ []
quiet_lines e c T es a =
    flat_map-each_nothing (change_line e c T T) es (AllByRecursion-map (λ s. shown_rows c T s ≡ shown_rows e T s) (λ s. change_line e c T T s ≡ []) es
    (λ s k. ap (λ rows. machine_line None s (difference (shown_rows e T s) rows)) k ∙ ap (machine_line None s) (difference-itself (shown_rows e T s))) a)

-- a request that keeps rows, where no subscription is moved, is quiet
quiet : (e : Store) (n : ℕ) (act : Act) → KeepsRows e n act → (frame_refusal (frame_of e) n act ≡ None → IsSoundStore e → AllByRecursion (IsUnmoved e (kept_after e n act)) e.subscriptions) → IsQuiet e n act
quiet e n act k u = record { keeps = k; acts = λ p h. AllByRecursion-map (IsUnmoved e (kept_after e n act)) (λ s. actor (frame_of (kept_after e n act)) s.session ≡ actor (frame_of e) s.session) e.subscriptions (λ s m. m.acts) (u p h); shows = λ p h T s. all_shown e (kept_after e n act) e.subscriptions (u p h) T s }

-- ---- the requests

pub IsQuiet-begin : (e : Store) (n : ℕ) (role : Name) → IsQuiet e n (begin role)
IsQuiet-begin e n role = quiet e n (begin role)
    (record { rows = λ T. refl; after = λ T h. refl; ends = λ s. refl; reply = refl; tables = λ T s. s; sound = λ p h. begin_sound e n h role p; counts = λ old new role rel k. refl })
    (λ p h. begin_unmoved e n h role)

pub IsQuiet-create_role : (e : Store) (n : ℕ) (name : Name) → IsQuiet e n (create_role name)
IsQuiet-create_role e n name = quiet e n (create_role name)
    (record { rows = λ T. refl; after = λ T h. refl; ends = λ s. refl; reply = refl; tables = λ T s. s; sound = λ p h. role_sound e n h name p; counts = λ old new role rel k. refl })
    (λ p h. role_unmoved e n h name)

pub IsQuiet-grant : (e : Store) (n : ℕ) (rel : Name) (ps : List Privilege) (to : Option Name) → IsQuiet e n (grant rel ps to)
IsQuiet-grant e n rel ps to = quiet e n (grant rel ps to)
    (record { rows = λ T. refl; after = λ T h. refl; ends = λ s. refl; reply = refl; tables = λ T s. s; sound = λ p h. grant_sound e n h rel ps to; counts = λ old new role rel k. refl })
    (λ p h. grant_unmoved e n h rel ps to)

pub IsQuiet-create_table : (e : Store) (n : ℕ) (name owner : Name) (columns : List Column) → IsQuiet e n (create_table name owner columns)
IsQuiet-create_table e n name owner columns = quiet e n (create_table name owner columns)
    (record { rows = λ T. refl; after = λ T h. refl; ends = λ s. refl; reply = refl; tables = λ T s t q. ap (λ z. weight_of z q) (rows_of-with_table (catalogs.Table columns) (length e.catalog) e.tables t) ∙ s t q; sound = λ p h. table_sound e n h name owner columns; counts = λ old new role rel k. refl })
    (λ p h. table_unmoved e n h name owner columns)

pub IsQuiet-create_view : (e : Store) (n : ℕ) (name owner query : Name) → IsQuiet e n (create_view name owner query)
IsQuiet-create_view e n name owner query = quiet e n (create_view name owner query)
    (record { rows = λ T. refl; after = λ T h. refl; ends = λ s. refl; reply = refl; tables = λ T s. s; sound = λ p h. view_sound e n h name owner query p; counts = λ old new role rel k. refl })
    (λ p h. view_unmoved e n h name owner query p)

-- ---- the step

pub not_refused-Ok : (reply : Reply) → reply ≡ Ok → (r : machine.Refusal) → reply_of reply ≡ machine.refused r → ⊥
not_refused-Ok reply h r k = let e : machine.done ≡ machine.refused r = sym (ap reply_of h) ∙ k in cc

-- a refused request
pub IsRefused-frame_refusal : (e new : Store) (n : ℕ) (act : Act) (r : Refusal) → frame_refusal (frame_of e) n act ≡ Some (refusal_of r) → new ≡ e → IsRefused e n act r new
IsRefused-frame_refusal e new n act r h k = record { told = λ T s. ap (λ o. or_else o (rows_refusal (at e T) n act)) h; kept = k }

-- an accepted one leaves the rounds
same_counted : (e : Store) (n : ℕ) (act : Act) → KeepsRows e n act → IsSoundStore e → frame_refusal (frame_of e) n act ≡ None → AreActors e (kept_after e n act) → AreCounted (seen e) act (seen (kept_after e n act))
same_counted e n act q sound passed acts =
    let d = kept_after e n act in
    let R : Subscription → ℕ → ℕ → Type 0 = λ s was now. TurnsRounds (seen e) (seen d) act (actor (frame_of d) s.session) s.rel was now in
    those_counted e d (q.sound passed sound).stored R (AllByRecursion-IsBeside e sound.stored)
    (AllByRecursion-map (λ s. actor (frame_of d) s.session ≡ actor (frame_of e) s.session) (λ s. R s (rounds_of e s) (rounds_of d s)) e.subscriptions
    (λ s a. subst (R s (rounds_of e s)) (sym (rounds_of-same_circuits e d s refl a)) (q.counts (seen e) (seen d) (actor (frame_of d) s.session) s.rel (rounds_of e s))) acts)

-- an accepted one that tells each subscription what it shows now and did not show before
pub changed_step : (e new : Store) (n : ℕ) (act : Act) (a : Answer) → KeepsRows e n act → AreActors e (kept_after e n act) → IsSoundStore e → frame_refusal (frame_of e) n act ≡ None → new ≡ kept_after e n act → a.reply ≡ Ok
    → ((T : Lists) → Stands T e.tables → map line_of a.changes.items ≡ flat_map (change_line e (kept_after e n act) T T) e.subscriptions) → IsAccepted e n act a new
changed_step e new n act a q acts sound passed k r told = record {
  answer = λ T s. (decided e n act q sound T s ∙ passed, ap reply_of r ∙ q.reply, told T s ∙ sym (changed_sent e n act q sound T s passed));
  left = λ T s. subst (λ (t : State). IsBehind t (seen new)) (sym (changed_left e n act q sound T s passed))
      (subst (λ (v : Store). IsBehind (at (kept_after e n act) T) (seen v)) (sym k) (record { frame = refl; rows = q.tables T s }));
  accepts = not_refused-Ok a.reply r;
  rounds = subst (λ (v : Store). AreCounted (seen e) act (seen v)) (sym k) (same_counted e n act q sound passed acts);
  sound = subst IsSoundStore (sym k) (q.sound passed sound);
}

-- ---- what the database says of a request

-- its tests are the engine's
abbrev pub TestsAlike : Store → ℕ → Act → Type 0
TestsAlike u n act = frame_refusal (database.frame_of (database_of u)) n act ≡ frame_refusal (frame_of u) n act

-- what stops a request goes up as it is
pub IsStep-IsErrAnd : (e : Store) (n : ℕ) (act : Act) (new : Store) (stop : Stop) → IsStep e n act (Err stop) new → (r : Result Answer Stop) → IsErrAnd r (λ x. x ≡ stop) → IsStep e n act r new
IsStep-IsErrAnd e n act new stop step r up = IsErrAnd-gives r (λ x. x ≡ stop) (λ y. IsStep e n act y new) up (λ x is. subst (λ (z : Stop). IsStep e n act (Err z) new) (sym is) step)

module _ (e u : Store) (d : Database) (n : ℕ) (act : Act) (is : u ≡ e) (same : TestsAlike u n act) where
  -- a request that it does not do
  pub stopped : (stop : Stop) → IsDone (database_of u) n act (Err stop) d → IsStep e n act (Err stop) (with_database d u)
  stopped (Refused r) told = IsRefused-frame_refusal e (with_database d u) n act r
      (ap (λ (v : Store). frame_refusal (frame_of v) n act) (sym is) ∙ sym same ∙ told.0) (ap (λ x. with_database x u) told.1 ∙ is)
  stopped Memory told = tt

  -- a request that it has done
  module _ (passed : frame_refusal (database.frame_of (database_of u)) n act ≡ None) where
    pub has_passed : frame_refusal (frame_of e) n act ≡ None
    has_passed = ap (λ (v : Store). frame_refusal (frame_of v) n act) (sym is) ∙ sym same ∙ passed

    pub has_become : d ≡ changed.database_after (database_of u) n act → with_database d u ≡ kept_after e n act
    has_become state = ap (λ x. with_database x u) state ∙ ap (λ (v : Store). kept_after v n act) is

-- a request that shows nothing
pub IsStep-IsPlain : (e u : Store) (d : Database) (n : ℕ) (act : Act) (done : Result Unit Stop) (a : Result Answer Stop) → u ≡ e → IsQuiet e n act → IsSoundStore e → TestsAlike u n act
    → IsPlain done a → IsDone (database_of u) n act done d → IsStep e n act a (with_database d u)
IsStep-IsPlain e u d n act (OkResult v) (OkResult a) is q sound same p told =
    let passed = has_passed e u d n act is same told.0 in
    changed_step e (with_database d u) n act a q.keeps (q.acts passed sound) sound passed (has_become e u d n act is same told.0 told.1) p.0
    (λ T s. ap (map line_of) p.1 ∙ sym (quiet_lines e (kept_after e n act) T e.subscriptions (q.shows passed sound T s)))
IsStep-IsPlain e u d n act (OkResult v) (Err t) is q sound same p told = absurd p
IsStep-IsPlain e u d n act (Err x) (OkResult a) is q sound same p told = absurd p
IsStep-IsPlain e u d n act (Err x) (Err t) is q sound same p told = subst (λ (y : Stop). IsStep e n act (Err y) (with_database d u)) (sym p) (stopped e u d n act is same x told)

-- What is kept while facts are carried out where nobody is.
use Rattle.std.proofs.Common.{◌≡◌, ◌≤◌, ◌+◌, ℕ, Bool, not, true, false, cond, List, [], ◌∷◌, ◌++◌, Option, Some, None, is_some, length, refl, ap, ◌∙◌, sym, subst, arith, length-append}
use Rattle.std.specs.Prelude.{◌==◌, option_and_then}
use Rattle.std.specs.List.{AllByRecursion}
use Rattle.std.proofs.lemmas.Bool.{false≢true}
use Rattle.iv_access.specs.Access.{role_number}
use Rattle.iv_access.specs.Rights.{Name}
use Rattle.iv_bind.specs.BoundTexts.{bound_query}
use Rattle.iv_bind.specs.Catalogs.{CatalogEntry, Held, Table, numbered}
use Rattle.iv_machine.specs.Act.{Act, begin, finish, create_role, create_table, create_view, grant, revoke, grant_role, revoke_role, row_security, create_policy, drop_policy, subscribe, unsubscribe, write, Refusal}
use Rattle.iv_machine.specs.Changing.{after, view_held, with_held}
use Rattle.iv_machine.specs.Machine.{outcome, settled, step}
use Rattle.iv_machine.specs.Refusing.{or_else, refusal}
use Rattle.iv_machine.specs.State.{State, next_rel}
use Rattle.iv_machine.proofs.SubscriptionPlaces.{find_more}
use Rattle.iv_machine.proofs.Sound.{IsWhole, IsWhole-settled}
use Rattle.iv_steps.specs.Steps.{Fact, all_carried, at_place, carried, first_refused, is_shared, passed, shared}

-- ---- one session

-- what is shared, with session 1 of a role
abbrev pub with_one : ℕ → State → State
with_one role u = record u { frame = record u.frame { sessions = record { number = 1; role = role } ∷ []; subscriptions = []; last = 0 } }

pub settled-is_shared : (role : ℕ) (u : State) (act : Act) → is_shared act ≡ true → settled act (after (with_one role u) 1 act) ≡ with_one role (after u 1 act)
settled-is_shared role u (begin name) h = absurd (false≢true h)
settled-is_shared role u finish h = absurd (false≢true h)
settled-is_shared role u (create_role name) h = refl
settled-is_shared role u (create_table name owner columns) h = refl
settled-is_shared role u (create_view name owner query) h = refl
settled-is_shared role u (grant rel privileges to) h = refl
settled-is_shared role u (revoke rel privileges to) h = refl
settled-is_shared role u (grant_role group to) h = refl
settled-is_shared role u (revoke_role group to) h = refl
settled-is_shared role u (row_security rel enable force) h = refl
settled-is_shared role u (create_policy p) h = refl
settled-is_shared role u (drop_policy rel name) h = refl
settled-is_shared role u (subscribe rel) h = absurd (false≢true h)
settled-is_shared role u (unsubscribe k) h = absurd (false≢true h)
settled-is_shared role u (write entries) h = refl

-- ---- roles and relations stay

pub record Grows (old new : State) : Type 0 where
  pub roles : length old.frame.rights.roles ≤ length new.frame.rights.roles
  pub relations : length old.frame.catalog ≤ length new.frame.catalog
  pub known : (k : ℕ) → is_some (numbered old.frame.catalog k) ≡ true → is_some (numbered new.frame.catalog k) ≡ true

grows_then : (s t u : State) → Grows s t → Grows t u → Grows s u
grows_then s t u a b = record { roles = (let x = a.roles in let y = b.roles in omega arith); relations = (let x = a.relations in let y = b.relations in omega arith); known = λ k h. b.known k (a.known k h) }

pub grows_not : (s : State) → Grows s s
grows_not s = record { roles = omega arith; relations = omega arith; known = λ k h. h }

one_role : (roles : List Name) (name : Name) → length roles ≤ length (roles ++ name ∷ [])
one_role roles name = let e = length-append roles (name ∷ []) in omega arith

more_held : (catalog : List CatalogEntry) (name : Name) (o : Option Held) → length catalog ≤ length (with_held name o catalog)
more_held catalog name None = omega arith
more_held catalog name (Some held) = let e = length-append catalog (record { name = name; rel = next_rel catalog; held = held } ∷ []) in omega arith

more_known : (catalog : List CatalogEntry) (name : Name) (o : Option Held) (k : ℕ) → is_some (numbered catalog k) ≡ true → is_some (numbered (with_held name o catalog) k) ≡ true
more_known catalog name None k h = h
more_known catalog name (Some held) k h = find_more (λ (x : CatalogEntry). k == x.rel) catalog (record { name = name; rel = next_rel catalog; held = held } ∷ []) h

act_grows : (u : State) (act : Act) → Grows u (after u 1 act)
act_grows u (create_role name) = record { roles = one_role u.frame.rights.roles name; relations = omega arith; known = λ k h. h }
act_grows u (create_table name owner columns) = record { roles = omega arith; relations = more_held u.frame.catalog name (Some (Table columns)); known = more_known u.frame.catalog name (Some (Table columns)) }
act_grows u (create_view name owner query) = record { roles = omega arith; relations = more_held u.frame.catalog name (view_held (bound_query u.frame.catalog query)); known = more_known u.frame.catalog name (view_held (bound_query u.frame.catalog query)) }
act_grows u _ = record { roles = omega arith; relations = omega arith; known = λ k h. h }

-- ---- a fact

-- what passed was not refused
record Passed (act : Act) (s t : State) : Type 0 where
  pub accepted : refusal s 1 act ≡ None
  pub is : t ≡ settled act (after s 1 act)

passes : (act : Act) (s t : State) → passed act s ≡ Some t → Passed act s t
passes act s t h = by (refusal s 1 act) refl h
  where
    by : (o : Option Refusal) → refusal s 1 act ≡ o → cond (is_some o) None (Some (outcome s (record { session = 1; act = act }) o).state) ≡ Some t → Passed act s t
    by None e k = let same : settled act (after s 1 act) ≡ t = cc in record { accepted = e; is = sym same }
    by (Some r) e k = cc

-- a state with nobody there, to which facts led: whole, if it was
pub record Led (s t : State) : Type 0 where
  pub now : State
  pub is : t ≡ shared now
  pub whole : IsWhole (shared s) → IsWhole (shared now)
  pub grows : Grows s now

pub option_and_then-Some : {A B : Type 0} (o : Option A) (f : A → Option B) (b : B) → option_and_then f o ≡ Some b → (P : Type 0) → ((a : A) → o ≡ Some a → f a ≡ Some b → P) → P
option_and_then-Some None f b h P go = cc
option_and_then-Some (Some a) f b h P go = go a refl h

carries : (f : Fact) (u t : State) → carried f (shared u) ≡ Some t → Led u t
carries f u t h = by (is_shared f.act) refl h
  where
    role : ℕ
    role = role_number u.frame.rights f.role

    v : State
    v = after u 1 f.act

    done : (x y : State) → is_shared f.act ≡ true → passed (begin f.role) (shared u) ≡ Some x → passed f.act x ≡ Some y → passed finish y ≡ Some t → Led u t
    done x y k p q r =
        let a = passes (begin f.role) (shared u) x p in
        let b = passes f.act (with_one role u) y (subst (λ z. passed f.act z ≡ Some y) a.is q) in
        let alone = settled-is_shared role u f.act k in
        let c = passes finish (with_one role v) t (subst (λ z. passed finish z ≡ Some t) (b.is ∙ alone) r) in
        record {
          now = v;
          is = c.is;
          whole = λ w.
              let whole_a : IsWhole (with_one role u) = IsWhole-settled (shared u) 1 (begin f.role) a.accepted w in
              let whole_b : IsWhole (with_one role v) = subst IsWhole alone (IsWhole-settled (with_one role u) 1 f.act b.accepted whole_a) in
              IsWhole-settled (with_one role v) 1 finish c.accepted whole_b;
          grows = act_grows u f.act;
        }

    by : (b : Bool) → is_shared f.act ≡ b
        → cond b (option_and_then (passed finish) (option_and_then (passed f.act) (passed (begin f.role) (shared u)))) None ≡ Some t → Led u t
    by false k p = cc
    by true k p = option_and_then-Some (option_and_then (passed f.act) (passed (begin f.role) (shared u))) (passed finish) t p (Led u t) (λ y q r.
        option_and_then-Some (passed (begin f.role) (shared u)) (passed f.act) y q (Led u t) (λ x p1 q1. done x y k p1 q1 r))

pub Led-all_carried : (fs : List Fact) (u t : State) → all_carried fs (shared u) ≡ Some t → Led u t
Led-all_carried [] u t h = let same : shared u ≡ t = cc in record { now = u; is = sym same; whole = λ w. w; grows = grows_not u }
Led-all_carried (f ∷ fs) u t h = option_and_then-Some (carried f (shared u)) (all_carried fs) t h (Led u t) (λ x p q.
    let a = carries f u x p in
    let b = Led-all_carried fs a.now t (subst (λ z. all_carried fs z ≡ Some t) a.is q) in
    record { now = b.now; is = b.is; whole = λ w. b.whole (a.whole w); grows = grows_then u a.now b.now a.grows b.grows })

-- ---- which fact is refused

passed_none : (act : Act) (s : State) (r : Refusal) → refusal s 1 act ≡ Some r → passed act s ≡ None
passed_none act s r h = ap (λ o. cond (is_some o) None (Some (step s (record { session = 1; act = act })).state)) h

passed_some : (act : Act) (s : State) → refusal s 1 act ≡ None → passed act s ≡ Some (settled act (after s 1 act))
passed_some act s h =
    ap (λ o. cond (is_some o) None (Some (step s (record { session = 1; act = act })).state)) h
    ∙ ap (λ o. Some (outcome s (record { session = 1; act = act }) o).state) h

module _ (f : Fact) (u : State) (h : is_shared f.act ≡ true) where
  abbrev role : ℕ
  role = role_number u.frame.rights f.role

  abbrev v : State
  v = after u 1 f.act

  begun : refusal (shared u) 1 (begin f.role) ≡ None → passed (begin f.role) (shared u) ≡ Some (with_one role u)
  begun a = passed_some (begin f.role) (shared u) a

  done : refusal (with_one role u) 1 f.act ≡ None → passed f.act (with_one role u) ≡ Some (with_one role v)
  done b = passed_some f.act (with_one role u) b ∙ ap Some (settled-is_shared role u f.act h)

  finished : passed finish (with_one role v) ≡ Some (shared v)
  finished = passed_some finish (with_one role v) refl

  pub same_begun : refusal (shared u) 1 (begin f.role) ≡ None → (step (shared u) (record { session = 1; act = begin f.role })).state ≡ with_one role u
  same_begun a = ap (λ o. (outcome (shared u) (record { session = 1; act = begin f.role }) o).state) a

  pub is_carried : refusal (shared u) 1 (begin f.role) ≡ None → refusal (with_one role u) 1 f.act ≡ None → carried f (shared u) ≡ Some (shared v)
  is_carried a b = ap (λ c. cond c (option_and_then (passed finish) (option_and_then (passed f.act) (passed (begin f.role) (shared u)))) None) h
      ∙ (λ i. option_and_then (passed finish) (option_and_then (passed f.act) (begun a i)))
      ∙ ap (option_and_then (passed finish)) (done b)
      ∙ finished

  pub no_session : (r : Refusal) → refusal (shared u) 1 (begin f.role) ≡ Some r → carried f (shared u) ≡ None
  no_session r a = ap (λ c. cond c (option_and_then (passed finish) (option_and_then (passed f.act) (passed (begin f.role) (shared u)))) None) h
      ∙ ap (λ o. option_and_then (passed finish) (option_and_then (passed f.act) o)) (passed_none (begin f.role) (shared u) r a)

  pub not_done : (r : Refusal) → refusal (shared u) 1 (begin f.role) ≡ None → refusal (with_one role u) 1 f.act ≡ Some r → carried f (shared u) ≡ None
  not_done r a b = ap (λ c. cond c (option_and_then (passed finish) (option_and_then (passed f.act) (passed (begin f.role) (shared u)))) None) h
      ∙ (λ i. option_and_then (passed finish) (option_and_then (passed f.act) (begun a i)))
      ∙ ap (option_and_then (passed finish)) (passed_none f.act (with_one role u) r b)

  -- so it is carried out, or refused
  refused_or_carried : (n : ℕ) (fs : List Fact) → is_some (first_refused (n + 1) fs (shared v)) ≡ not (is_some (all_carried fs (shared v)))
      → is_some (first_refused n (f ∷ fs) (shared u)) ≡ not (is_some (all_carried (f ∷ fs) (shared u)))
  refused_or_carried n fs later = by (refusal (shared u) 1 (begin f.role)) refl
    where
      act : (p : Option Refusal) → refusal (shared u) 1 (begin f.role) ≡ None → refusal (with_one role u) 1 f.act ≡ p
          → is_some (at_place n p (option_and_then (first_refused (n + 1) fs) (carried f (shared u)))) ≡ not (is_some (option_and_then (all_carried fs) (carried f (shared u))))
      act (Some r) a b = sym (ap (λ c. not (is_some (option_and_then (all_carried fs) c))) (not_done r a b))
      act None a b = ap (λ c. is_some (option_and_then (first_refused (n + 1) fs) c)) (is_carried a b) ∙ later
          ∙ sym (ap (λ c. not (is_some (option_and_then (all_carried fs) c))) (is_carried a b))

      by : (o : Option Refusal) → refusal (shared u) 1 (begin f.role) ≡ o
          → is_some (at_place n (or_else o (refusal (step (shared u) (record { session = 1; act = begin f.role })).state 1 f.act)) (option_and_then (first_refused (n + 1) fs) (carried f (shared u))))
          ≡ not (is_some (option_and_then (all_carried fs) (carried f (shared u))))
      by (Some r) a = sym (ap (λ c. not (is_some (option_and_then (all_carried fs) c))) (no_session r a))
      by None a = ap (λ x. is_some (at_place n (refusal x 1 f.act) (option_and_then (first_refused (n + 1) fs) (carried f (shared u))))) (same_begun a)
          ∙ act (refusal (with_one role u) 1 f.act) a refl

pub first_refused-all_carried : (n : ℕ) (fs : List Fact) (u : State) → AllByRecursion (λ f. is_shared f.act ≡ true) fs → is_some (first_refused n fs (shared u)) ≡ not (is_some (all_carried fs (shared u)))
first_refused-all_carried n [] u a = refl
first_refused-all_carried n (f ∷ fs) u a = refused_or_carried f u a.0 n fs (first_refused-all_carried (n + 1) fs (after u 1 f.act) a.1)

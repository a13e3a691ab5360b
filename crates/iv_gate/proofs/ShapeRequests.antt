-- The requests that make the shape lead, without the others, to the same roles, memberships, rights, relations and policies.
use Rattle.std.proofs.Common.{◌≡◌, ℕ, Bool, true, false, cond, List, [], ◌∷◌, map, Some, None, option_map, refl, ap, ◌∙◌, sym, subst}
use Rattle.std.specs.Prelude.{filter, option_and_then}
use Rattle.std.proofs.lemmas.Bool.{false≢true}
use Rattle.iv_algebra.specs.Plans.{Lists}
use Rattle.iv_bind.specs.Catalogs.{CatalogEntry}
use Rattle.iv_access.specs.Access.{role_number}
use Rattle.iv_access.specs.Rights.{Rights}
use Rattle.iv_machine.specs.Act.{Act, begin, finish, subscribe, unsubscribe, write}
use Rattle.iv_machine.specs.Changing.{after}
use Rattle.iv_machine.specs.Machine.{settled}
use Rattle.iv_machine.specs.Refusing.{refusal}
use Rattle.iv_machine.specs.State.{State, start}
use Rattle.iv_steps.specs.Steps.{Fact, all_carried, carried, passed, shared}
use Rattle.iv_records.specs.Journal.{Request, is_shape, is_shared, requests_in}
use Rattle.iv_records.proofs.CutParts.{Found-option_and_then}
use Rattle.iv_clients.proofs.Slots.{same-Some}
use Rattle.iv_gate.specs.Arriving.{fact_of}
use Rattle.iv_gate.specs.Gate.{Gate}
use Rattle.iv_gate.specs.Laws.{MakesShape}
use Rattle.iv_gate.specs.Runs.{Runs}
use Rattle.iv_gate.proofs.SoundRuns.{Starts}
use Rattle.iv_gate.proofs.EntryRuns.{IsLed-Runs}
use Rattle.iv_gate.proofs.RequestsAlone.{alone, refusal-finish, left, left-shared, passed-refusal, state_of, WasLed-carried}
use Rattle.iv_gate.proofs.SoundCommands.{Adds, Sounds}

-- ---- states of one shape

pub record SameShape (s t : State) : Type 0 where
  pub cap : s.frame.cap ≡ t.frame.cap
  pub rights : s.frame.rights ≡ t.frame.rights
  pub catalog : s.frame.catalog ≡ t.frame.catalog

-- ---- one request

-- what makes the shape is accepted by the shape alone, whatever the rows are
still_made : (cap : ℕ) (R : Rights) (C : List CatalogEntry) (role last later : ℕ) (T U : Lists) (act : Act) → is_shape act ≡ true
    → refusal (alone cap R C role last T) 1 act ≡ None → refusal (alone cap R C role later U) 1 act ≡ None
still_made cap R C role last later T U (begin name) x h = absurd (false≢true x)
still_made cap R C role last later T U finish x h = absurd (false≢true x)
still_made cap R C role last later T U (subscribe rel) x h = absurd (false≢true x)
still_made cap R C role last later T U (unsubscribe k) x h = absurd (false≢true x)
still_made cap R C role last later T U (write entries) x h = absurd (false≢true x)
still_made cap R C role last later T U _ x h = h

-- and changes it in the same way
same_made : (cap : ℕ) (R : Rights) (C : List CatalogEntry) (role last later : ℕ) (T U : Lists) (act : Act) → is_shape act ≡ true → SameShape (left cap R C role last T act) (left cap R C role later U act)
same_made cap R C role last later T U (begin name) x = absurd (false≢true x)
same_made cap R C role last later T U finish x = absurd (false≢true x)
same_made cap R C role last later T U (subscribe rel) x = absurd (false≢true x)
same_made cap R C role last later T U (unsubscribe k) x = absurd (false≢true x)
same_made cap R C role last later T U (write entries) x = absurd (false≢true x)
same_made cap R C role last later T U _ x = record { cap = refl; rights = refl; catalog = refl }

-- what does not make it changes nothing of it
not_made : (cap : ℕ) (R : Rights) (C : List CatalogEntry) (role last later : ℕ) (T U : Lists) (act : Act) → is_shared act ≡ true → is_shape act ≡ false → SameShape (left cap R C role last T act) (state_of cap R C [] [] later U)
not_made cap R C role last later T U (write entries) y x = record { cap = refl; rights = refl; catalog = refl }
not_made cap R C role last later T U (begin name) y x = absurd (false≢true y)
not_made cap R C role last later T U finish y x = absurd (false≢true y)
not_made cap R C role last later T U (subscribe rel) y x = absurd (false≢true y)
not_made cap R C role last later T U (unsubscribe k) y x = absurd (false≢true y)
not_made cap R C role last later T U _ y x = absurd (false≢true (sym x))

-- carried out from t it led to the shape of u, and nobody is left
record HasMade (t u : State) (q : Request) : Type 0 where
  end : State
  carries : carried (fact_of q) t ≡ Some end
  same : SameShape u end
  bare : end ≡ shared end

one_makes : (s t u : State) (q : Request) → SameShape s t → is_shape q.act ≡ true → carried (fact_of q) (shared s) ≡ Some u → HasMade (shared t) u q
one_makes s t u q m x h =
    let cap = s.frame.cap in let R = s.frame.rights in let C = s.frame.catalog in let role = role_number R q.role in
    let w = WasLed-carried s u q h in
    let from = state_of cap R C [] [] 0 t.rows in
    let mid = alone cap R C role 0 t.rows in
    let acted = settled q.act (after mid 1 q.act) in
    let end = left cap R C role 0 t.rows q.act in
    let one : passed (begin q.role) from ≡ Some mid = passed-refusal from (begin q.role) w.begun in
    let two : passed q.act mid ≡ Some acted = passed-refusal mid q.act (still_made cap R C role 0 0 s.rows t.rows q.act x w.acted) in
    let three : passed finish acted ≡ Some end = passed-refusal acted finish (refusal-finish cap R C role 0 t.rows q.act w.shared) in
    let made : HasMade from u q = record {
      end = end;
      carries = ap (λ b. cond b (option_and_then (passed finish) (option_and_then (passed q.act) (passed (begin q.role) from))) None) w.shared
          ∙ (ap (λ o. option_and_then (passed finish) (option_and_then (passed q.act) o)) one ∙ (ap (option_and_then (passed finish)) two ∙ three));
      same = subst (λ z. SameShape z end) (sym w.ended) (same_made cap R C role 0 0 s.rows t.rows q.act x);
      bare = left-shared cap R C role t.rows q.act w.shared;
    } in
    let there : from ≡ shared t = (λ i. state_of (m.cap i) (m.rights i) (m.catalog i) [] [] 0 t.rows) in
    subst (λ z. HasMade z u q) there made

none_makes : (s t u : State) (q : Request) → SameShape s t → is_shape q.act ≡ false → carried (fact_of q) (shared s) ≡ Some u → SameShape u t
none_makes s t u q m x h =
    let w = WasLed-carried s u q h in
    let n : SameShape u (state_of s.frame.cap s.frame.rights s.frame.catalog [] [] 0 t.rows) =
    subst (λ z. SameShape z (state_of s.frame.cap s.frame.rights s.frame.catalog [] [] 0 t.rows)) (sym w.ended)
    (not_made s.frame.cap s.frame.rights s.frame.catalog (role_number s.frame.rights q.role) 0 0 s.rows t.rows q.act w.shared x) in
    record { cap = n.cap ∙ m.cap; rights = n.rights ∙ m.rights; catalog = n.catalog ∙ m.catalog }

-- ---- all of them

abbrev shapes : List Request → List Fact
shapes qs = map fact_of (filter (λ (q : Request). is_shape q.act) qs)

record AllMake (t u : State) (qs : List Request) : Type 0 where
  end : State
  carries : all_carried (shapes qs) (shared t) ≡ Some end
  same : SameShape u end
  bare : end ≡ shared end

all_make : (s t u : State) (qs : List Request) → SameShape s t → all_carried (map fact_of qs) (shared s) ≡ Some u → AllMake t u qs
all_make s t u [] m h = record {
  end = shared t;
  carries = refl;
  same = subst (λ z. SameShape z (shared t)) (same-Some (shared s) u h) (record { cap = m.cap; rights = m.rights; catalog = m.catalog });
  bare = refl;
}
all_make s t u (q ∷ qs) m h =
    let f = Found-option_and_then (all_carried (map fact_of qs)) (carried (fact_of q) (shared s)) u h in
    let w = WasLed-carried s f.of q f.there in
    let bare : f.of ≡ shared f.of =
    w.ended ∙ (left-shared s.frame.cap s.frame.rights s.frame.catalog (role_number s.frame.rights q.role) s.rows q.act w.shared ∙ ap shared (sym w.ended)) in
    by f.of f.there (is_shape q.act) refl (λ v n. all_make f.of v u qs n (ap (all_carried (map fact_of qs)) (sym bare) ∙ f.is))
  where
    by : (mid : State) → carried (fact_of q) (shared s) ≡ Some mid → (b : Bool) → is_shape q.act ≡ b → ((v : State) → SameShape mid v → AllMake v u qs) → AllMake t u (q ∷ qs)
    by mid g true x more =
        let l = one_makes s t mid q m x g in let r = more l.end l.same in
        record {
          end = r.end;
          carries = ap (λ b. all_carried (map fact_of (cond b (q ∷ filter (λ (z : Request). is_shape z.act) qs) (filter (λ (z : Request). is_shape z.act) qs))) (shared t)) x
              ∙ (ap (option_and_then (all_carried (shapes qs))) l.carries ∙ (ap (all_carried (shapes qs)) l.bare ∙ r.carries));
          same = r.same;
          bare = r.bare;
        }
    by mid g false x more =
        let r = more t (none_makes s t mid q m x g) in
        record {
          end = r.end;
          carries = ap (λ b. all_carried (map fact_of (cond b (q ∷ filter (λ (z : Request). is_shape z.act) qs) (filter (λ (z : Request). is_shape z.act) qs))) (shared t)) x ∙ r.carries;
          same = r.same;
          bare = r.bare;
        }

pub MakesShape-Runs : Adds → Starts → Sounds → (cap : ℕ) (g : Gate) → Runs cap g → MakesShape cap g
MakesShape-Runs adds starts sounds cap g r =
    let m = all_make (start cap) (start cap) (shared g.machine) (requests_in g.entries) (record { cap = refl; rights = refl; catalog = refl }) (IsLed-Runs adds starts sounds cap g r) in
    let frame : m.end.frame ≡ (shared g.machine).frame = ap (λ (z : State). z.frame) m.bare ∙ (λ i. record { cap = sym m.same.cap i; rights = sym m.same.rights i; catalog = sym m.same.catalog i; sessions = []; subscriptions = []; last = 0 }) in
    ap (option_map (λ (s : State). s.frame)) m.carries ∙ ap Some frame

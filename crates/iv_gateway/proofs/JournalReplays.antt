-- The journal, as the code carries it out again.
use Rattle.std.proofs.Common.{◌≡◌, ◌∙◌, ℕ, ◌+◌, ◌-◌, ◌<◌, ◌≤◌, Bool, true, false, cond, not, List, [], ◌∷◌, ◌++◌, length, map, drop, Option, Some, None, is_none, is_some, refl, ap, sym, subst, arith, append-nil, append_assoc, length-append, length-drop}
use Rattle.std.specs.Global.{Vec}
use Rattle.std.specs.Prelude.{◌&&◌, filter, flat_map, nat_lt, option_and_then, unwrap_or}
use Rattle.std.proofs.Math.Seq.{drop-length, take-length}
use Rattle.std.proofs.lemmas.Bool.{false≢true}
use Rattle.std.proofs.lemmas.Bool.Decides.{nat_tests}
use Rattle.std.proofs.lemmas.List.{drop-drop, drop_all, map-append}
use Rattle.std.proofs.lemmas.List.Concat.{flat_map-append}
use Rattle.iv_rows.specs.Options.{if_some}
use Rattle.iv_machine.specs.Act.{Act, Refusal, begin, finish}
use Rattle.iv_machine.specs.Machine.{step}
use Rattle.iv_machine.specs.Refusing.{refusal}
use Rattle.iv_machine.specs.State.{State}
use Rattle.iv_machine.specs.Well.{is_well_act}
use Rattle.iv_message.specs.Message.{is_well_message}
use Rattle.iv_message.specs.Told.{made, told_text}
use Rattle.iv_message.proofs.Meaning.{ReadsWell}
use Rattle.iv_journal.specs.Journal.{Line}
use Rattle.iv_once.specs.Names as once
use Rattle.iv_once.specs.Names.{Known, Named, Names, learned}
use Rattle.iv_once.specs.Runs.{unspent}
use Rattle.iv_once.specs.Views.{names_of as names_in_code}
use Rattle.iv_steps.specs.Steps.{all_carried, carried, passed}
use Rattle.iv_records.specs.Journal.{Entry, IsEntry, IsRequest, Request, is_shape, is_shared, journal_of, names_in, position_of, requests_in}
use Rattle.iv_records.specs.Laws.{ReadsBack}
use Rattle.iv_records.specs.Names.{limits}
use Rattle.iv_records.specs.Parsed.{record_in}
use Rattle.iv_clients.proofs.Slots.{same-Some, not_None-Some}
use Rattle.iv_gate.specs.Arriving.{fact_of, first_known, is_new, not_new, position}
use Rattle.iv_gate.specs.Gate.{Gate, in_session, is_accepted, known_at, known_by, known_of, names_of, reply_in, shape_text, spent_in}
use Rattle.iv_gate.specs.Restoring.{IsDamagedAt, LeadOn, Restores, are_rising}
use Rattle.iv_gate.proofs.JournalDamage.{AllByRecursion-append_back, all_carried-append, facts_of-append, facts_of, journal_of-one, journal_of-push, led_to, lines_of, names_in-append, AllByRecursion-push, record_in-lines_of}
use Rattle.iv_gate.proofs.GrantsByCommands.{is_well_message-message_of}
use Rattle.iv_gateway.specs.Replays.{AreNamesReplayed, IsNew, IsPassed, IsRecordReplayed, IsReplayed, IsReplaying, behind, is_later, part, with_name, with_request}
use Rattle.iv_arrivals.specs.Entering.{shape_in}
use Rattle.iv_gateway.specs.Views.{IsAlive}
use Rattle.iv_gateway.specs.declared.gateway.Gateway.{Gateway}
use Rattle.iv_gateway.proofs.AddedEntries.{AreKept, names_by-push, position_of-push, shape_text-append}
use Rattle.iv_gateway.proofs.RefusedCommands.{is_accepted-outcome}

-- one act: what the first line says is what the machine says
pub IsPassed-step : (g : Gate) (act : Act) (is : Bool) (x : Gateway) → is ≡ is_accepted (reply_in (step g.machine (in_session 1 act)).lines)
    → IsAlive (record g { machine = (step g.machine (in_session 1 act)).state }) x → IsPassed g (passed act g.machine) is x
IsPassed-step g act is x h a = by (refusal g.machine 1 act) refl
  where
    told : is ≡ is_none (refusal g.machine 1 act)
    told = h ∙ is_accepted-outcome g.machine (in_session 1 act) (refusal g.machine 1 act)

    by : (o : Option Refusal) → refusal g.machine 1 act ≡ o → IsPassed g (cond (is_some o) None (Some (step g.machine (in_session 1 act)).state)) is x
    by None e = (told ∙ ap is_none e, a)
    by (Some r) e = told ∙ ap is_none e

pub none_passed : (g : Gate) (o : Option State) (is : Bool) (x : Gateway) → IsPassed g o is x → is ≡ false → o ≡ None
none_passed g None is x p h = refl
none_passed g (Some s) is x p h = absurd (false≢true (sym h ∙ p.0))

-- the state to which the machine was led
pub record PassesTo (g : Gate) (o : Option State) (x : Gateway) : Type 0 where
  pub state : State
  pub is : o ≡ Some state
  pub gate : IsAlive (record g { machine = state }) x

pub PassesTo-IsPassed : (g : Gate) (o : Option State) (is : Bool) (x : Gateway) → IsPassed g o is x → is ≡ true → PassesTo g o x
PassesTo-IsPassed g None is x p h = absurd (false≢true (sym p ∙ h))
PassesTo-IsPassed g (Some s) is x p h = record { state = s; is = refl; gate = p.1 }

-- ---- one request: a session is begun, the act is done, the session is finished

in_turn : (q : Request) (s : State) → is_shared q.act ≡ true
    → carried (fact_of q) s ≡ option_and_then (passed finish) (option_and_then (passed q.act) (passed (begin q.role) s))
in_turn q s h = ap (λ b. cond b (option_and_then (passed finish) (option_and_then (passed q.act) (passed (begin q.role) s))) None) h

pub unbegun : (q : Request) (s : State) → is_shared q.act ≡ true → passed (begin q.role) s ≡ None → carried (fact_of q) s ≡ None
unbegun q s h n = in_turn q s h ∙ ap (λ o. option_and_then (passed finish) (option_and_then (passed q.act) o)) n

pub unaccepted : (q : Request) (s t : State) → is_shared q.act ≡ true → passed (begin q.role) s ≡ Some t → passed q.act t ≡ None → carried (fact_of q) s ≡ None
unaccepted q s t h b n =
    in_turn q s h ∙ (ap (λ o. option_and_then (passed finish) (option_and_then (passed q.act) o)) b ∙ ap (option_and_then (passed finish)) n)

pub finishes : (q : Request) (s t u : State) → is_shared q.act ≡ true → passed (begin q.role) s ≡ Some t → passed q.act t ≡ Some u → carried (fact_of q) s ≡ passed finish u
finishes q s t u h b d =
    in_turn q s h ∙ (ap (λ o. option_and_then (passed finish) (option_and_then (passed q.act) o)) b ∙ ap (option_and_then (passed finish)) d)

-- ---- the parts of an entry

-- a request of the journal is one that the machine may be given
pub is_well_act-IsRequest : ReadsWell → (q : Request) → IsRequest q → is_well_act q.act ≡ true
is_well_act-IsRequest reads q w = ap is_well_message (sym w.asks) ∙ is_well_message-message_of reads q.line

names_last : (es : List Entry) (e : Entry) → names_in (es ++ e ∷ []) ≡ names_in es ++ e.names
names_last es e = names_in-append es (e ∷ []) ∙ ap (λ ns. names_in es ++ ns) (append-nil e.names)

-- of what is behind an entry these values are kept, where its names, position and shape are so
kept_behind : (g : Gate) (s t : State) (es fs : List Entry) (x : Gateway) (names : Names) (at : ℕ) (shape : List ℕ) → IsAlive (behind g s es) x
    → names ≡ names_of (behind g t fs) → at ≡ position_of g.head.position fs → shape ≡ shape_text fs
    → AreKept (behind g t fs) names at at x.pending.items shape
kept_behind g s t es fs x names at shape b n p h = record {
  names = n;
  position = p;
  settled = p ∙ sym (ap (position_of g.head.position) (take-length fs));
  forgiven = omega arith;
  pending = record { within = omega arith; lines = b.pending.lines ∙ (ap journal_of (drop-length es) ∙ sym (ap journal_of (drop-length fs))) };
  shape = h;
}

-- what is settled is where the log stands
pub settled-IsAlive : (g : Gate) (s : State) (es : List Entry) (x : Gateway) → IsAlive (behind g s es) x → x.settled ≡ x.position
settled-IsAlive g s es x b = b.settled ∙ (ap (position_of g.head.position) (take-length es) ∙ sym b.position)

-- ---- its position

same_names : (g : Gate) (s t : State) (es fs : List Entry) → names_in es ≡ names_in fs → names_of (behind g s es) ≡ names_of (behind g t fs)
same_names g s t es fs h = λ i. record { limits = limits; known = known_by (known_at g.head) (h i); spent = spent_in (h i) }

pub AreKept-position : (g : Gate) (s : State) (es : List Entry) (p : Option ℕ) (at : ℕ) (x : Gateway) → IsAlive (behind g s es) x → at ≡ unwrap_or p x.position
    → AreKept (behind g s (es ++ part [] [] p ∷ [])) (names_in_code x.names) at at x.pending.items x.shape.items
AreKept-position g s es p at x b h = kept_behind g s s es (es ++ part [] [] p ∷ []) x (names_in_code x.names) at x.shape.items b
    (b.names ∙ same_names g s s es (es ++ part [] [] p ∷ []) (sym (names_last es (part [] [] p) ∙ append-nil (names_in es))))
    (h ∙ (ap (unwrap_or p) b.position ∙ sym (position_of-push g.head.position es (part [] [] p))))
    (b.shape ∙ sym (shape_text-append es (part [] [] p ∷ []) ∙ append-nil (shape_text es)))

-- ---- a request more

with_both : (es : List Entry) (e : Entry) (q : Request) → requests_in (es ++ with_request e q ∷ []) ≡ requests_in (es ++ e ∷ []) ++ q ∷ []
with_both es e q =
    let one : (d : Entry) → requests_in (es ++ d ∷ []) ≡ requests_in es ++ d.requests = λ d. flat_map-append (λ (x : Entry). x.requests) es (d ∷ [])
    ∙ ap (λ z. requests_in es ++ z) (append-nil d.requests) in
    one (with_request e q) ∙ (sym (append_assoc (requests_in es) e.requests (q ∷ [])) ∙ ap (λ z. z ++ q ∷ []) (sym (one e)))

shape_as : (es : List Entry) → shape_text es ≡ shape_text (part (requests_in es) [] None ∷ [])
shape_as es = ap (λ qs. flat_map told_text (map (λ (q : Request). made q.role q.line) (filter (λ (q : Request). is_shape q.act) qs))) (sym (append-nil (requests_in es)))

shape_pushed : (es : List Entry) (e : Entry) (q : Request) → shape_text (es ++ with_request e q ∷ []) ≡ shape_text (es ++ e ∷ []) ++ shape_in q
shape_pushed es e q =
    shape_as (es ++ with_request e q ∷ [])
    ∙ (ap (λ qs. shape_text (part qs [] None ∷ [])) (with_both es e q)
    ∙ (sym (shape_as ((es ++ e ∷ []) ++ part (q ∷ []) [] None ∷ []) ∙ ap (λ qs. shape_text (part qs [] None ∷ [])) (flat_map-append (λ (x : Entry). x.requests) (es ++ e ∷ []) (part (q ∷ []) [] None ∷ [])))
    ∙ shape_text-append (es ++ e ∷ []) (part (q ∷ []) [] None ∷ [])))

pub AreKept-with_request : (g : Gate) (s : State) (es : List Entry) (e : Entry) (q : Request) (shape : Vec ℕ) (x : Gateway)
    → IsAlive (behind g s (es ++ e ∷ [])) x
    → shape.items ≡ x.shape.items ++ shape_in q → IsAlive (behind g s (es ++ with_request e q ∷ [])) (record x { shape = shape })
AreKept-with_request g s es e q shape x b h =
    let k = kept_behind g s s (es ++ e ∷ []) (es ++ with_request e q ∷ []) x (names_in_code x.names) x.position shape.items b
    (b.names ∙ same_names g s s (es ++ e ∷ []) (es ++ with_request e q ∷ []) (names_last es e ∙ sym (names_last es (with_request e q))))
    (b.position ∙ (position_of-push g.head.position es e ∙ sym (position_of-push g.head.position es (with_request e q))))
    (h ∙ (ap (λ z. z ++ shape_in q) b.shape ∙ sym (shape_pushed es e q))) in record {
      tokens = b.tokens;
      machine = b.machine;
      seats = b.seats;
      feeds = b.feeds;
      clients = b.clients;
      names = k.names;
      log = b.log;
      leads = b.leads;
      position = k.position;
      settled = settled-IsAlive g s (es ++ e ∷ []) x b ∙ k.settled;
      forgiven = k.forgiven;
      pending = k.pending;
      shape = k.shape;
    }

-- ---- a name more

pub AreKept-with_name : (g : Gate) (s : State) (es : List Entry) (e : Entry) (n : Named) (names : Names) (x : Gateway) → IsAlive (behind g s (es ++ e ∷ [])) x
    → names ≡ once.pushed (names_in_code x.names) (once.named n)
    → AreKept (behind g s (es ++ with_name e n ∷ [])) names x.position x.position x.pending.items x.shape.items
AreKept-with_name g s es e n names x b h =
    let all : names_in (es ++ with_name e n ∷ []) ≡ names_in (es ++ e ∷ []) ++ n ∷ [] =
    names_last es (with_name e n) ∙ (sym (append_assoc (names_in es) e.names (n ∷ [])) ∙ ap (λ z. z ++ n ∷ []) (sym (names_last es e))) in
    kept_behind g s s (es ++ e ∷ []) (es ++ with_name e n ∷ []) x names x.position x.shape.items b
    (h ∙ (ap (λ z. once.pushed z (once.named n)) b.names
    ∙ sym ((λ i. record { limits = limits; known = known_by (known_at g.head) (all i); spent = spent_in (all i) })
    ∙ names_by-push g (names_in (es ++ e ∷ [])) (names_in (es ++ e ∷ [])) n)))
    (b.position ∙ (position_of-push g.head.position es e ∙ sym (position_of-push g.head.position es (with_name e n))))
    (b.shape ∙ (shape_as (es ++ e ∷ []) ∙ (ap (λ qs. shape_text (part qs [] None ∷ []))
    (flat_map-append (λ (y : Entry). y.requests) es (e ∷ []) ∙ sym (flat_map-append (λ (y : Entry). y.requests) es (with_name e n ∷ [])))
    ∙ sym (shape_as (es ++ with_name e n ∷ [])))))

pub is_new-IsAlive : (g : Gate) (s : State) (es : List Entry) (x : Gateway) (ask : once.Ask) (is : Bool) → IsAlive (behind g s es) x
    → is ≡ once.is_new (names_in_code x.names).limits (names_in_code x.names).known ask → is ≡ is_new (known_of (behind g s es)) ask
is_new-IsAlive g s es x ask is b h = h ∙ ap (λ (n : Names). once.is_new n.limits n.known ask) b.names

-- ---- whether it may be so

pub nat_lt-not_later : (q p at : ℕ) → p ≤ at → at ≡ q → false ≡ nat_lt q p
nat_lt-not_later q p at h e = grind (arith, nat_tests)

pub nat_lt-later : (q p at : ℕ) → at < p → at ≡ q → true ≡ nat_lt q p
nat_lt-later q p at h e = grind (arith, nat_tests)

passed_as : (g : Gate) (s : State) (o : Option State) (is : Bool) (x : Gateway) → IsPassed (record g { machine = s }) o is x → IsPassed g o is x
passed_as g s None is x p = p
passed_as g s (Some t) is x p = p

never_carried : (g : Gate) (o : Option State) (x : Gateway) → o ≡ None → IsPassed g o false x
never_carried g o x e = subst (λ z. IsPassed g z false x) (sym e) refl

-- no session is begun
pub IsPassed-not_begun : (g : Gate) (q : Request) (is : Bool) (x y : Gateway) → is_shared q.act ≡ true → IsPassed g (passed (begin q.role) g.machine) is x → is ≡ false
    → IsPassed g (carried (fact_of q) g.machine) false y
IsPassed-not_begun g q is x y h p e = never_carried g (carried (fact_of q) g.machine) y (unbegun q g.machine h (none_passed g (passed (begin q.role) g.machine) is x p e))

-- the act is refused
pub IsPassed-not_accepted : (g : Gate) (q : Request) (is : Bool) (x y z : Gateway) → is_shared q.act ≡ true
    → (b : PassesTo g (passed (begin q.role) g.machine) x)
    → IsPassed (record g { machine = b.state }) (passed q.act b.state) is y → is ≡ false → IsPassed g (carried (fact_of q) g.machine) false z
IsPassed-not_accepted g q is x y z h b p e =
    never_carried g (carried (fact_of q) g.machine) z
    (unaccepted q g.machine b.state h b.is (none_passed (record g { machine = b.state }) (passed q.act b.state) is y p e))

-- and then the session is finished
pub IsPassed-finish : (g : Gate) (q : Request) (is : Bool) (x y z : Gateway) → is_shared q.act ≡ true → (b : PassesTo g (passed (begin q.role) g.machine) x)
    → (d : PassesTo (record g { machine = b.state }) (passed q.act b.state) y) → IsPassed (record g { machine = d.state }) (passed finish d.state) is z
    → IsPassed g (carried (fact_of q) g.machine) is z
IsPassed-finish g q is x y z h b d p =
    subst (λ o. IsPassed g o is z) (sym (finishes q g.machine b.state d.state h b.is d.is)) (passed_as g d.state (passed finish d.state) is z p)

-- ---- all requests, in their order

-- so many are done, and the rest are left
pub record GoesOn (g : Gate) (s : State) (es : List Entry) (p : Option ℕ) (every rest : List Request) (x : Gateway) : Type 0 where
  pub done : List Request
  pub all : every ≡ done ++ rest
  pub state : State
  pub carries : all_carried (map fact_of done) s ≡ Some state
  pub gate : IsAlive (behind g state (es ++ part done [] p ∷ [])) x

pub GoesOn-start : (g : Gate) (s : State) (es : List Entry) (p : Option ℕ) (all : List Request) (x : Gateway) → IsAlive (behind g s (es ++ part [] [] p ∷ [])) x
    → GoesOn g s es p all all x
GoesOn-start g s es p all x b = record { done = []; all = refl; state = s; carries = refl; gate = b }

one_more_done : (s t : State) (done : List Request) (q : Request) (o : Option State) → all_carried (map fact_of done) s ≡ Some t → carried (fact_of q) t ≡ o
    → all_carried (map fact_of (done ++ q ∷ [])) s ≡ o
one_more_done s t done q o c h =
    ap (λ fs. all_carried fs s) (map-append fact_of done (q ∷ []))
    ∙ (all_carried-append s (map fact_of done) (fact_of q ∷ []) ∙ (ap (option_and_then (all_carried (fact_of q ∷ []))) c ∙ (ap (option_and_then (all_carried [])) h ∙ same o)))
  where
    same : (o : Option State) → option_and_then (all_carried []) o ≡ o
    same None = refl
    same (Some u) = refl

pub GoesOn-next : (g : Gate) (s : State) (es : List Entry) (p : Option ℕ) (all rest : List Request) (q : Request) (is : Bool) (x y : Gateway)
    → (w : GoesOn g s es p all (q ∷ rest) x)
    → IsPassed (behind g w.state (es ++ with_request (part w.done [] p) q ∷ [])) (carried (fact_of q) w.state) is y → is ≡ true
    → GoesOn g s es p all rest y
GoesOn-next g s es p all rest q is x y w r h = by (carried (fact_of q) w.state) refl r
  where
    by : (o : Option State) → carried (fact_of q) w.state ≡ o → IsPassed (behind g w.state (es ++ with_request (part w.done [] p) q ∷ [])) o is y → GoesOn g s es p all rest y
    by None e r = absurd (false≢true (sym r ∙ h))
    by (Some t) e r = record {
      done = w.done ++ q ∷ [];
      all = w.all ∙ sym (append_assoc w.done (q ∷ []) rest);
      state = t;
      carries = one_more_done s w.state w.done q (Some t) w.carries e;
      gate = r.1;
    }

pub IsPassed-all_carried_false : (g : Gate) (s : State) (es : List Entry) (p : Option ℕ) (all rest : List Request) (q : Request) (is : Bool) (x y : Gateway)
    → (w : GoesOn g s es p all (q ∷ rest) x)
    → IsPassed (behind g w.state (es ++ with_request (part w.done [] p) q ∷ [])) (carried (fact_of q) w.state) is y → is ≡ false
    → IsPassed (behind g s (es ++ part all [] p ∷ [])) (all_carried (map fact_of all) s) false y
IsPassed-all_carried_false g s es p all rest q is x y w r h = by (carried (fact_of q) w.state) refl r
  where
    none : carried (fact_of q) w.state ≡ None → all_carried (map fact_of all) s ≡ None
    none e =
        ap (λ qs. all_carried (map fact_of qs) s) (w.all ∙ sym (append_assoc w.done (q ∷ []) rest))
        ∙ (ap (λ fs. all_carried fs s) (map-append fact_of (w.done ++ q ∷ []) rest)
        ∙ (all_carried-append s (map fact_of (w.done ++ q ∷ [])) (map fact_of rest)
        ∙ ap (option_and_then (all_carried (map fact_of rest))) (one_more_done s w.state w.done q None w.carries e)))

    by : (o : Option State) → carried (fact_of q) w.state ≡ o → IsPassed (behind g w.state (es ++ with_request (part w.done [] p) q ∷ [])) o is y
        → IsPassed (behind g s (es ++ part all [] p ∷ [])) (all_carried (map fact_of all) s) false y
    by None e r = subst (λ o. IsPassed (behind g s (es ++ part all [] p ∷ [])) o false y) (sym (none e)) refl
    by (Some t) e r = absurd (false≢true (sym h ∙ r.0))

pub IsPassed-GoesOn : (g : Gate) (s : State) (es : List Entry) (p : Option ℕ) (all rest : List Request) (x : Gateway) → rest ≡ [] → GoesOn g s es p all rest x
    → IsPassed (behind g s (es ++ part all [] p ∷ [])) (all_carried (map fact_of all) s) true x
IsPassed-GoesOn g s es p all rest x e w =
    let same : all ≡ w.done = w.all ∙ (ap (λ z. w.done ++ z) e ∙ append-nil w.done) in
    subst (λ o. IsPassed (behind g s (es ++ part all [] p ∷ [])) o true x) (sym (ap (λ qs. all_carried (map fact_of qs) s) same ∙ w.carries))
    (refl, subst (λ qs. IsAlive (behind g w.state (es ++ part qs [] p ∷ [])) x) (sym same) w.gate)

-- ---- all names, in their order

abbrev pub are_new : List Named → Known → Bool
are_new [] k = true
are_new (e ∷ es) k = is_new k e.ask && are_new es (learned limits (once.named e) k)

new_by : (n : ℕ) (es : List Named) (k : Known) → not (is_some (first_known n es k)) ≡ are_new es k
new_by n [] k = refl
new_by n (e ∷ es) k = by (is_new k e.ask) (new_by (n + 1) es (learned limits (once.named e) k))
  where
    by : (b : Bool) → not (is_some (first_known (n + 1) es (learned limits (once.named e) k))) ≡ are_new es (learned limits (once.named e) k)
        → not (is_some (cond b (first_known (n + 1) es (learned limits (once.named e) k)) (Some (not_new n)))) ≡ (b && are_new es (learned limits (once.named e) k))
    by true h = h
    by false h = refl

and_both : (a b c : Bool) → (a && (b && c)) ≡ ((a && b) && c)
and_both true b c = refl
and_both false b c = refl

new_append : (xs ys : List Named) (k : Known) → are_new (xs ++ ys) k ≡ (are_new xs k && are_new ys (known_by k xs))
new_append [] ys k = refl
new_append (x ∷ xs) ys k = ap (λ b. is_new k x.ask && b) (new_append xs ys (learned limits (once.named x) k))
    ∙ and_both (is_new k x.ask) (are_new xs (learned limits (once.named x) k)) (are_new ys (known_by (learned limits (once.named x) k) xs))

known_append : (k : Known) (xs ys : List Named) → known_by k (xs ++ ys) ≡ known_by (known_by k xs) ys
known_append k [] ys = refl
known_append k (x ∷ xs) ys = known_append (learned limits (once.named x) k) xs ys

known_part : (g : Gate) (s t : State) (es : List Entry) (e : Entry) → known_of (behind g s (es ++ e ∷ [])) ≡ known_by (known_of (behind g t es)) e.names
known_part g s t es e = ap (known_by (known_at g.head)) (names_last es e) ∙ known_append (known_at g.head) (names_in es) e.names

pub record AreLearning (g : Gate) (s : State) (es : List Entry) (qs : List Request) (p : Option ℕ) (every rest : List Named) (x : Gateway) : Type 0 where
  pub done : List Named
  pub all : every ≡ done ++ rest
  pub new : are_new done (known_of (behind g s es)) ≡ true
  pub gate : IsAlive (behind g s (es ++ part qs done p ∷ [])) x

pub AreLearning-start : (g : Gate) (s : State) (es : List Entry) (qs : List Request) (p : Option ℕ) (all : List Named) (x : Gateway)
    → IsAlive (behind g s (es ++ part qs [] p ∷ [])) x → AreLearning g s es qs p all all x
AreLearning-start g s es qs p all x b = record { done = []; all = refl; new = refl; gate = b }

one_more_new : (k : Known) (done : List Named) (n : Named) → are_new done k ≡ true → are_new (done ++ n ∷ []) k ≡ is_new (known_by k done) n.ask
one_more_new k done n h = new_append done (n ∷ []) k ∙ ((λ i. h i && (is_new (known_by k done) n.ask && true)) ∙ and_true (is_new (known_by k done) n.ask))
  where
    and_true : (b : Bool) → (b && true) ≡ b
    and_true true = refl
    and_true false = refl

pub AreLearning-next : (g : Gate) (s : State) (es : List Entry) (qs : List Request) (p : Option ℕ) (all rest : List Named) (n : Named) (is : Bool) (x y : Gateway)
    → (w : AreLearning g s es qs p all (n ∷ rest) x) → is ≡ is_new (known_of (behind g s (es ++ part qs w.done p ∷ []))) n.ask → is ≡ true
    → IsAlive (behind g s (es ++ with_name (part qs w.done p) n ∷ [])) y → AreLearning g s es qs p all rest y
AreLearning-next g s es qs p all rest n is x y w e h b = record {
  done = w.done ++ n ∷ [];
  all = w.all ∙ sym (append_assoc w.done (n ∷ []) rest);
  new = one_more_new (known_of (behind g s es)) w.done n w.new ∙ (ap (λ k. is_new k n.ask) (sym (known_part g s s es (part qs w.done p))) ∙ (sym e ∙ h));
  gate = b;
}

pub AreNamesReplayed-not_new : (g : Gate) (s : State) (es : List Entry) (qs : List Request) (p : Option ℕ) (all rest : List Named) (n : Named) (is : Bool) (x y : Gateway)
    → (w : AreLearning g s es qs p all (n ∷ rest) x) → is ≡ is_new (known_of (behind g s (es ++ part qs w.done p ∷ []))) n.ask → is ≡ false
    → AreNamesReplayed g s es qs all p false y
AreNamesReplayed-not_new g s es qs p all rest n is x y w e h =
    let k = known_of (behind g s es) in
    let one : are_new (w.done ++ n ∷ []) k ≡ false = one_more_new k w.done n w.new ∙ (ap (λ m. is_new m n.ask) (sym (known_part g s s es (part qs w.done p))) ∙ (sym e ∙ h)) in
    let all_new : are_new all k ≡ false = ap (λ ns. are_new ns k) (w.all ∙ sym (append_assoc w.done (n ∷ []) rest))
    ∙ (new_append (w.done ++ n ∷ []) rest k ∙ ap (λ b. b && are_new rest (known_by k (w.done ++ n ∷ []))) one) in
    (sym (new_by 1 all k ∙ all_new), λ t. absurd (false≢true t))

pub AreNamesReplayed-AreLearning : (g : Gate) (s : State) (es : List Entry) (qs : List Request) (p : Option ℕ) (all rest : List Named) (x : Gateway) → rest ≡ []
    → AreLearning g s es qs p all rest x → AreNamesReplayed g s es qs all p true x
AreNamesReplayed-AreLearning g s es qs p all rest x e w =
    let same : all ≡ w.done = w.all ∙ (ap (λ z. w.done ++ z) e ∙ append-nil w.done) in
    let k = known_of (behind g s es) in
    (sym (new_by 1 all k ∙ (ap (λ ns. are_new ns k) same ∙ w.new)), λ t. subst (λ ns. IsAlive (behind g s (es ++ part qs ns p ∷ [])) x) (sym same) w.gate)

-- ---- an entry

later_last : (p : ℕ) (es : List Entry) (e : Entry) → are_rising p (es ++ e ∷ []) ≡ (are_rising p es && is_later (position_of p es) e.position)
later_last p [] e = and_true (is_later p e.position)
  where
    and_true : (b : Bool) → (b && true) ≡ b
    and_true true = refl
    and_true false = refl
later_last p (x ∷ xs) e = ap (λ b. if_some x.position true (nat_lt p) && b) (later_last (unwrap_or x.position p) xs e)
    ∙ and_both (if_some x.position true (nat_lt p)) (are_rising (unwrap_or x.position p) xs) (is_later (position_of (unwrap_or x.position p) xs) e.position)

-- where it began
start_position : (g : Gate) → g.entries ≡ [] → position g ≡ g.head.position
start_position g e = ap (position_of g.head.position) e

start_known : (g : Gate) (s : State) (es : List Entry) → g.entries ≡ [] → known_by (known_of g) (names_in es) ≡ known_of (behind g s es)
start_known g s es e = ap (λ all. known_by (known_by (known_at g.head) (names_in all)) (names_in es)) e

rises : (g : Gate) (es : List Entry) (e : Entry) → g.entries ≡ [] → are_rising (position g) es ≡ true
    → are_rising (position g) (es ++ e ∷ []) ≡ is_later (position_of g.head.position es) e.position
rises g es e n h = later_last (position g) es e ∙ (λ i. h i && is_later (position_of (start_position g n i) es) e.position)

-- the state to which they lead is that of what leads on
leads_there : (g : Gate) (es : List Entry) (x : Gateway) → (w : IsReplaying g es x) → all_carried (facts_of es) g.machine ≡ Some w.state
leads_there g es x w = w.leads.accepted ∙ ap Some (sym (ap (λ (h : Gate). h.machine) w.leads.gate))

carries : (g : Gate) (s : State) (es : List Entry) (e : Entry) → all_carried (facts_of es) g.machine ≡ Some s
    → all_carried (facts_of (es ++ e ∷ [])) g.machine ≡ all_carried (map fact_of e.requests) s
carries g s es e h =
    ap (λ fs. all_carried fs g.machine) (facts_of-append es (e ∷ []) ∙ ap (λ qs. facts_of es ++ map fact_of qs) (append-nil e.requests))
    ∙ (all_carried-append g.machine (facts_of es) (map fact_of e.requests) ∙ ap (option_and_then (all_carried (map fact_of e.requests))) h)

news : (g : Gate) (s : State) (es : List Entry) (e : Entry) → g.entries ≡ [] → first_known 1 (names_in es) (known_of g) ≡ None
    → not (is_some (first_known 1 (names_in (es ++ e ∷ [])) (known_of g))) ≡ not (is_some (first_known 1 e.names (known_of (behind g s es))))
news g s es e n h =
    let k = known_of g in
    let before : are_new (names_in es) k ≡ true = sym (new_by 1 (names_in es) k) ∙ ap (λ f. not (is_some f)) h in
    new_by 1 (names_in (es ++ e ∷ [])) k
    ∙ (ap (λ ns. are_new ns k) (names_last es e)
    ∙ (new_append (names_in es) e.names k
    ∙ ((λ i. before i && are_new e.names (start_known g s es n i)) ∙ sym (new_by 1 e.names (known_of (behind g s es))))))

none_if : {X : Type 0} (o : Option X) → not (is_some o) ≡ true → o ≡ None
none_if None h = refl
none_if (Some x) h = absurd (false≢true h)

-- its position is not behind the last
pub IsReplayed-not_later : (g : Gate) (es : List Entry) (e : Entry) (x y : Gateway) → IsReplaying g es x → false ≡ is_later (position_of g.head.position es) e.position
    → IsReplayed g es e false y
IsReplayed-not_later g es e x y w h = λ k l. false≢true (h ∙ (sym (rises g es e w.began w.leads.steps) ∙ l.steps))

-- a request of it is not accepted
pub IsReplayed-not_carried : (g : Gate) (es : List Entry) (e : Entry) (x y z : Gateway) (is : Bool) → (w : IsReplaying g es x)
    → IsPassed (behind g w.state (es ++ part e.requests [] e.position ∷ [])) (all_carried (map fact_of e.requests) w.state) is y → is ≡ false
    → IsReplayed g es e false z
IsReplayed-not_carried g es e x y z is w r h = λ k l.
    not_None-Some l.state (sym l.accepted ∙ (carries g w.state es e (leads_there g es x w) ∙ none_passed (behind g w.state (es ++ part e.requests [] e.position ∷ [])) (all_carried (map fact_of e.requests) w.state) is y r h))

-- its names decide
pub IsReplayed-AreNamesReplayed : (g : Gate) (es : List Entry) (e : Entry) (x y z : Gateway) (is all : Bool) → IsEntry e → (w : IsReplaying g es x)
    → is_later (position_of g.head.position es) e.position ≡ true
    → (p : PassesTo (behind g w.state (es ++ part e.requests [] e.position ∷ [])) (all_carried (map fact_of e.requests) w.state) y)
    → AreNamesReplayed g p.state es e.requests e.names e.position all z → IsReplayed g es e all z
IsReplayed-AreNamesReplayed g es e x y z is false well w h p n = λ k l.
    false≢true (n.0 ∙ (sym (news g p.state es e w.began w.leads.names) ∙ ap (λ f. not (is_some f)) l.names))
IsReplayed-AreNamesReplayed g es e x y z is true well w h p n = record {
  began = w.began;
  state = p.state;
  leads = record {
    state = p.state;
    well = AllByRecursion-push IsEntry es e w.leads.well well;
    accepted = carries g w.state es e (leads_there g es x w) ∙ p.is;
    names = none_if (first_known 1 (names_in (es ++ e ∷ [])) (known_of g)) (news g p.state es e w.began w.leads.names ∙ sym n.0);
    steps = rises g es e w.began w.leads.steps ∙ h;
    gate = refl;
  };
  gate = n.1 refl;
}

-- ---- a record

-- what JSON is read with makes no difference
pub IsReplaying-scratch : (g : Gate) (es : List Entry) (x y : Gateway) → record x { scratch = y.scratch } ≡ y → IsReplaying g es x → IsReplaying g es y
IsReplaying-scratch g es x y e w =
    let b = w.gate in
    subst (IsReplaying g es) e (record {
      began = w.began;
      state = w.state;
      leads = w.leads;
      gate = record {
        tokens = b.tokens;
        machine = b.machine;
        seats = b.seats;
        feeds = b.feeds;
        clients = b.clients;
        names = b.names;
        log = b.log;
        leads = b.leads;
        position = b.position;
        settled = b.settled;
        forgiven = b.forgiven;
        pending = b.pending;
        shape = b.shape;
      };
    })

reads_this : ReadsBack → (g h : Gate) (es : List Entry) (lines more : List Line) (e : Entry) → lines ≡ journal_of (e ∷ []) ++ more → LeadOn g (es ++ e ∷ []) h
    → record_in lines ≡ Some (e, more)
reads_this reads g h es lines more e a l =
    ap record_in (a ∙ journal_of-one e more) ∙ record_in-lines_of reads e more (AllByRecursion-append_back IsEntry es (e ∷ []) l.well).0

pub IsRecordReplayed-None : ReadsBack → (g : Gate) (es : List Entry) (lines : List Line) (x : Gateway) → None ≡ record_in lines
    → IsRecordReplayed g es lines None x
IsRecordReplayed-None reads g es lines x n =
    λ e more h a l. not_None-Some {X = Entry × List Line} (e, more) (sym (reads_this reads g h es lines more e a l) ∙ sym n)

pub IsRecordReplayed-false : ReadsBack → (g : Gate) (es : List Entry) (lines later : List Line) (entry : Entry) (x y : Gateway)
    → Some (entry, later) ≡ record_in lines
    → IsReplayed g es entry false x → IsRecordReplayed g es lines None y
IsRecordReplayed-false reads g es lines later entry x y r bad = λ e more h a l.
    let same = same-Some {X = Entry × List Line} (e, more) (entry, later) (sym (reads_this reads g h es lines more e a l) ∙ sym r) in
    bad h (subst (λ z. LeadOn g (es ++ z ∷ []) h) (ap (λ (z : Entry × List Line). z.0) same) l)

-- what was read is an entry
pub IsEntry-record_in : ReadsBack → (lines later : List Line) (entry : Entry) → Some (entry, later) ≡ record_in lines → IsEntry entry
IsEntry-record_in reads lines later entry r = ((reads lines entry later).0 (sym r)).entry

pub IsRecordReplayed-IsReplayed : ReadsBack → (g : Gate) (es : List Entry) (lines : List Line) (entry : Entry) (count : ℕ) (x : Gateway) → Some (entry, drop count lines) ≡ record_in lines
    → count ≤ length lines → IsReplayed g es entry true x → IsRecordReplayed g es lines (Some count) x
IsRecordReplayed-IsReplayed reads g es lines entry count x r n w =
    let b = (reads lines entry (drop count lines)).0 (sym r) in record {
      entry = entry;
      lines = b.lines ∙ sym (journal_of-one entry (drop count lines));
      count = of_length (length lines) (length (lines_of entry)) (length (drop count lines))
          (ap length b.lines ∙ length-append (lines_of entry) (drop count lines)) (length-drop count lines) n
          ∙ ap length (sym (append-nil (lines_of entry)));
      gate = w;
    }
  where
    of_length : (all one more : ℕ) → all ≡ one + more → more ≡ all - count → count ≤ all → count ≡ one
    of_length all one more h d m = omega (arith, h, d, m)

-- ---- all records

-- up to a line the journal has led it
pub record HasRead (g : Gate) (journal : List Line) (at : ℕ) (x : Gateway) : Type 0 where
  pub entries : List Entry
  pub lines : journal ≡ journal_of entries ++ drop at journal
  pub count : at ≡ length (journal_of entries)
  pub gate : IsReplaying g entries x

pub HasRead-start : (g : Gate) (journal : List Line) (x : Gateway) → IsNew g → IsAlive g x → HasRead g journal 0 x
HasRead-start g journal x n b = record {
  entries = [];
  lines = refl;
  count = refl;
  gate = record {
    began = n.entries;
    state = g.machine;
    leads = record { state = g.machine; well = tt; accepted = refl; names = refl; steps = refl; gate = refl };
    gate = subst (λ h. IsAlive h x) (λ i. record g { entries = n.entries i; kept = n.kept i; forgiven = n.forgiven i }) b;
  };
}

pub HasRead-next : (g : Gate) (journal : List Line) (at count : ℕ) (x y : Gateway) → (w : HasRead g journal at x)
    → IsRecordReplayed g w.entries (drop at journal) (Some count) y → HasRead g journal (at + count) y
HasRead-next g journal at count x y w r =
    let all : length (journal_of (w.entries ++ r.entry ∷ [])) ≡ length (journal_of w.entries) + length (journal_of (r.entry ∷ [])) =
    ap length (flat_map-append lines_of w.entries (r.entry ∷ [])) ∙ length-append (journal_of w.entries) (journal_of (r.entry ∷ [])) in
    record {
      entries = w.entries ++ r.entry ∷ [];
      lines = w.lines ∙ (ap (λ z. journal_of w.entries ++ z) (r.lines ∙ journal_of-one r.entry (drop count (drop at journal)))
          ∙ (journal_of-push w.entries r.entry (drop count (drop at journal))
          ∙ ap (λ z. journal_of (w.entries ++ r.entry ∷ []) ++ z) (drop-drop count at journal)));
      count = both at count (length (journal_of w.entries)) (length (journal_of (r.entry ∷ []))) (length (journal_of (w.entries ++ r.entry ∷ []))) w.count r.count all;
      gate = r.gate;
    }
  where
    both : (a b c d e : ℕ) → a ≡ c → b ≡ d → e ≡ c + d → a + b ≡ e
    both a b c d e h k l = omega (arith, h, k, l)

pub Restores-HasRead : (g : Gate) (journal : List Line) (at : ℕ) (x : Gateway) → (w : HasRead g journal at x) → length journal ≤ at
    → Restores g journal (led_to g w.entries w.gate.state)
Restores-HasRead g journal at x w h = record {
  all = w.lines ∙ (ap (λ z. journal_of w.entries ++ z) (drop_all at journal h) ∙ append-nil (journal_of w.entries));
  leads = w.gate.leads;
}

-- all refusals are forgiven
pub names_of-forgiven : (g : Gate) (names old : Names) → old ≡ names_of g → names ≡ record old { spent = unspent }
    → names ≡ names_of (record g { forgiven = length g.entries })
names_of-forgiven g names old b h =
    h ∙ ((λ i. record (b i) { spent = unspent })
    ∙ (λ i. record (names_of g) { spent = (none ∙ sym (ap (λ z. spent_in (names_in z)) (drop-length g.entries))) i }))
  where
    none : unspent ≡ spent_in []
    none = λ i h. None

pub IsDamagedAt-IsRecordReplayed : (g : Gate) (journal : List Line) (at : ℕ) (x y : Gateway) → (w : HasRead g journal at x) → at < length journal
    → IsRecordReplayed g w.entries (drop at journal) None y → IsDamagedAt g journal at
IsDamagedAt-IsRecordReplayed g journal at x y w h r = record {
  entries = w.entries;
  gate = led_to g w.entries w.gate.state;
  rest = drop at journal;
  all = w.lines;
  leads = w.gate.leads;
  after = w.count;
  some = h;
  bad = r;
}

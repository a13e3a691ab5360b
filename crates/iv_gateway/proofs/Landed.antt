-- A step that comes: what the journal is to have of it, whether it is taken, and what it leaves.
use Rattle.std.proofs.Common.{◌≡◌, ◌∙◌, ℕ, ◌+◌, ◌≤◌, Bool, true, false, cond, not, List, [], ◌∷◌, ◌++◌, length, drop, map, Option, Some, None, is_some, option_map, refl, ap, sym, subst, append-nil, append_assoc}
use Rattle.std.specs.Prelude.{◌==◌, ◌&&◌, Result, Ok, Err, filter, flat_map, nat_le, nat_lt}
use Rattle.std.specs.Result.{IsErrAnd}
use Rattle.std.specs.List.{AllByRecursion, list_all}
use Rattle.std.proofs.lemmas.Bool.{false≢true}
use Rattle.std.proofs.lemmas.List.{drop-append-le}
use Rattle.std.proofs.lemmas.List.Concat.{flat_map-append}
use Rattle.iv_rows.specs.Options.{if_some}
use Rattle.iv_machine.specs.Act.{Refusal}
use Rattle.iv_machine.specs.Machine.{Outcome}
use Rattle.iv_message.proofs.Meaning.{ReadsWell}
use Rattle.iv_message.specs.Told.{made, told_text}
use Rattle.iv_journal.specs.Journal as journal
use Rattle.iv_once.specs.Names as once
use Rattle.iv_once.specs.Names.{Named, Names, learned}
use Rattle.iv_once.specs.Views.{names_of as names_in_code}
use Rattle.iv_steps.specs.Laws.{RefusalsAreFound}
use Rattle.iv_steps.specs.Steps.{Fact, first_refused, is_shared, is_well_fact, shared, stepped}
use Rattle.iv_command.specs.Views.{refusal_of}
use Rattle.iv_records.specs.Journal.{Entry, IsRequest, Request, is_shape, names_in, record_of, texts_of}
use Rattle.iv_gate.specs.Arriving.{Fault, Step, decided_here, entry_of, fact_of, fault_of, first_known, gap, was_taken, is_log, landed, not_accepted, not_new, other_log, position, takes}
use Rattle.iv_gate.specs.Gate.{Gate, entered, known_of, names_of, shape_text}
use Rattle.iv_gateway.specs.Arriving.{IsFaultOf, IsLanded, IsNotLanded, IsRefusedBy, IsTakenBy}
use Rattle.iv_arrivals.specs.Entering.{all_pushed, shape_in}
use Rattle.iv_gateway.specs.Views.{IsAlive}
use Rattle.iv_gateway.specs.declared.arriving.StepFault.{StepFault}
use Rattle.iv_gateway.specs.declared.arriving.StepFault.TheVariants as fault
use Rattle.iv_gateway.specs.declared.gateway.Gateway.{Gateway}
use Rattle.iv_gateway.proofs.AddedEntries.{AreKept, forgiven_more, names_by, names_by-push, no_shape, one_shape, pends_more, position_of-push, settled_stays, shape_text-added}
use Rattle.iv_gateway.proofs.JournalReplays.{is_well_act-IsRequest}

-- ---- names are learned

all_more : (g : Gate) (all spent ns : List Named) → names_by g (all ++ ns) (spent ++ ns) ≡ all_pushed (names_by g all spent) ns
all_more g all spent [] = λ i. names_by g (append-nil all i) (append-nil spent i)
all_more g all spent (n ∷ ns) =
    (λ i. names_by g (sym (append_assoc all (n ∷ []) ns) i) (sym (append_assoc spent (n ∷ []) ns) i))
    ∙ (all_more g (all ++ n ∷ []) (spent ++ n ∷ []) ns ∙ ap (λ z. all_pushed z ns) (names_by-push g all spent n))

-- those of an entry
names_all : (g : Gate) (e : Entry) → g.forgiven ≤ length g.entries → names_of (entered g (e ∷ [])) ≡ all_pushed (names_of g) e.names
names_all g e f =
    let more : (es : List Entry) → names_in (es ++ e ∷ []) ≡ names_in es ++ e.names = λ es. flat_map-append (λ (x : Entry). x.names) es (e ∷ [])
    ∙ ap (λ z. names_in es ++ z) (append-nil e.names) in
    (λ i. names_by g (more g.entries i) ((ap names_in (drop-append-le g.forgiven g.entries (e ∷ []) f) ∙ more (drop g.forgiven g.entries)) i))
    ∙ all_more g (names_in g.entries) (names_in (drop g.forgiven g.entries)) e.names

-- ---- the shape

text_of_all : (qs : List Request) → flat_map told_text (map (λ (q : Request). made q.role q.line) (filter (λ (q : Request). is_shape q.act) qs)) ≡ flat_map shape_in qs
text_of_all [] = refl
text_of_all (q ∷ qs) = by (text_of_all qs) (is_shape q.act) refl
  where
    by : flat_map told_text (map (λ (x : Request). made x.role x.line) (filter (λ (x : Request). is_shape x.act) qs)) ≡ flat_map shape_in qs → (b : Bool) → is_shape q.act ≡ b
        → flat_map told_text (map (λ (x : Request). made x.role x.line) (cond b (q ∷ filter (λ (x : Request). is_shape x.act) qs) (filter (λ (x : Request). is_shape x.act) qs)))
        ≡ shape_in q ++ flat_map shape_in qs
    by later true e = λ i. one_shape q e i ++ later i
    by later false e = later ∙ ap (λ z. z ++ flat_map shape_in qs) (sym (no_shape q e))

pub entry_shape : (e : Entry) → flat_map shape_in e.requests ≡ shape_text (e ∷ [])
entry_shape e = sym (ap (λ qs. flat_map told_text (map (λ (q : Request). made q.role q.line) (filter (λ (q : Request). is_shape q.act) qs))) (append-nil e.requests) ∙ text_of_all e.requests)

-- ---- what the code keeps of it

pub step_kept : (g : Gate) (s : Step) (x : Gateway) (names : Names) (lines : List journal.Line) (shape adds : List ℕ) → IsAlive g x
    → names ≡ all_pushed (names_in_code x.names) s.names → lines ≡ x.pending.items ++ record_of (texts_of (entry_of s))
    → adds ≡ shape_text (entry_of s ∷ []) → shape ≡ x.shape.items ++ adds
    → AreKept (entered g (entry_of s ∷ [])) names s.to x.settled lines shape
step_kept g s x names lines shape adds b n l m h = record {
  names = n ∙ (ap (λ z. all_pushed z s.names) b.names ∙ sym (names_all g (entry_of s) b.forgiven));
  position = sym (position_of-push g.head.position g.entries (entry_of s));
  settled = b.settled ∙ sym (settled_stays g (entry_of s ∷ []) b.pending.within);
  forgiven = forgiven_more g (entry_of s ∷ []) b.forgiven;
  pending = pends_more g.kept g.entries (entry_of s ∷ []) x.pending.items lines b.pending
      (l ∙ ap (λ z. x.pending.items ++ z) (sym (append-nil (record_of (texts_of (entry_of s))))));
  shape = shape_text-added g.entries (entry_of s ∷ []) x.shape.items shape adds b.shape m h;
}

-- ---- facts

-- those of a step are such as an engine takes
pub facts_well : ReadsWell → (qs : List Request) → AllByRecursion IsRequest qs → list_all is_well_fact (map fact_of qs) ≡ true
facts_well reads [] w = refl
facts_well reads (q ∷ qs) w =
    (λ i. (w.0.role i && (w.0.shared i && is_well_act-IsRequest reads q w.0 i)) && list_all is_well_fact (map fact_of qs)) ∙ facts_well reads qs w.1

facts_shared : (qs : List Request) → AllByRecursion IsRequest qs → AllByRecursion (λ f. is_shared f.act ≡ true) (map fact_of qs)
facts_shared [] w = tt
facts_shared (q ∷ qs) w = (w.0.shared, facts_shared qs w.1)

-- where all are carried out none is refused
pub none_refused : RefusalsAreFound → (qs : List Request) (g : Gate) (o : Outcome) → AllByRecursion IsRequest qs → stepped (map fact_of qs) g.machine ≡ Some o
    → first_refused 1 (map fact_of qs) (shared g.machine) ≡ None
none_refused found qs g o w h = none_if (first_refused 1 (map fact_of qs) (shared g.machine))
    (found (map fact_of qs) g.machine (facts_shared qs w) ∙ ap (λ z. not (is_some z)) h)
  where
    none_if : {X : Type 0} (o : Option X) → is_some o ≡ false → o ≡ None
    none_if None h = refl
    none_if (Some x) h = absurd (false≢true (sym h))

pub refused_lands : (g : Gate) (s : Step) (es : List Entry) (facts : List Fact) (f : StepFault) → first_known 1 s.names (known_of g) ≡ None → facts ≡ map fact_of s.requests
    → IsRefusedBy (entered g es) facts f → IsNotLanded g s f
refused_lands g s es facts fault.Led n e h = h
refused_lands g s es facts fault.OtherLog n e h = h
refused_lands g s es facts (fault.Gap p) n e h = h
refused_lands g s es facts (fault.NotAccepted q why) n e h = (n, ap (λ fs. first_refused 1 fs (shared g.machine)) (sym e) ∙ h)
refused_lands g s es facts (fault.NotNew p) n e h = absurd h
refused_lands g s es facts fault.Memory n e h = h
refused_lands g s es facts fault.Dead n e h = h

-- what follows from each error follows from the one that came
pub err_gives : {A E : Type 0} (r : Result A E) (P : E → Type 0) (Q : Result A E → Type 0) → IsErrAnd r P → ((x : E) → P x → Q (Err x)) → Q r
err_gives (Ok a) P Q h k = absurd h
err_gives (Err x) P Q h k = k x h

-- ---- whether it is taken

abbrev is_ours : Gate → Step → Bool
is_ours g s = if_some g.head.log false (is_log s.log)

abbrev begins : Gate → Step → Bool
begins g s = (s.from == position g) && nat_lt s.from s.to

abbrev fault_by : (leads ours past next : Bool) → ℕ → Option Fault → Option (ℕ × Refusal) → Option Fault
fault_by leads ours past next at names first = cond leads (Some decided_here) (cond (ours && past) None (
    cond (not ours) (Some other_log) (
    cond (not next) (Some (gap at)) (if_some names (option_map (λ p. not_accepted p.0 p.1) first) Some))))

fault_is : (g : Gate) (s : Step) (ours past next : Bool) (names : Option Fault) (first : Option (ℕ × Refusal)) → g.leads ≡ false → is_ours g s ≡ ours → nat_le s.to (position g) ≡ past
    → begins g s ≡ next → first_known 1 s.names (known_of g) ≡ names → first_refused 1 (map fact_of s.requests) (shared g.machine) ≡ first
    → fault_of g s ≡ fault_by false ours past next (position g) names first
fault_is g s ours past next names first l o p n k f = λ i. fault_by (l i) (o i) (p i) (n i) (position g) (k i) (f i)

takes_as : (g : Gate) (s : Step) (f : Option Fault) (b : Bool) (o : Option Outcome) → fault_of g s ≡ f → was_taken g s ≡ b → stepped (map fact_of s.requests) g.machine ≡ o
    → takes g s ≡ cond (is_some f) (record g { dead = true }) (cond b g (if_some o g (landed g (entry_of s))))
takes_as g s f b o e h k = λ i. cond (is_some (e i)) (record g { dead = true }) (cond (h i) g (if_some (k i) g (landed g (entry_of s))))

-- who leads takes none
pub is_led : (g : Gate) (s : Step) → g.leads ≡ true → IsFaultOf g s fault.Led
is_led g s l = λ i. fault_by (l i) (is_ours g s) (nat_le s.to (position g)) (begins g s) (position g) (first_known 1 s.names (known_of g))
    (first_refused 1 (map fact_of s.requests) (shared g.machine))

pub of_another : (g : Gate) (s : Step) → g.leads ≡ false → is_ours g s ≡ false → IsFaultOf g s fault.OtherLog
of_another g s l o = fault_is g s false (nat_le s.to (position g)) (begins g s) (first_known 1 s.names (known_of g))
    (first_refused 1 (map fact_of s.requests) (shared g.machine)) l o refl refl refl refl

pub IsAlive-was_taken : (g : Gate) (s : Step) (x : Gateway) → g.leads ≡ false → is_ours g s ≡ true → nat_le s.to (position g) ≡ true → IsAlive g x → IsTakenBy g s false × IsAlive (takes g s) x
IsAlive-was_taken g s x l o p b =
    let none : fault_of g s ≡ None = fault_is g s true true (begins g s) (first_known 1 s.names (known_of g))
    (first_refused 1 (map fact_of s.requests) (shared g.machine)) l o p refl refl refl in
    let past : was_taken g s ≡ true = λ i. o i && p i in (
      record { none = none; new = ap not (sym past) },
      subst (λ h. IsAlive h x) (sym (takes_as g s None true (stepped (map fact_of s.requests) g.machine) none past refl)) b,
    )

pub has_gap : (g : Gate) (s : Step) (at : ℕ) → g.leads ≡ false → is_ours g s ≡ true → nat_le s.to (position g) ≡ false → begins g s ≡ false → at ≡ position g → IsFaultOf g s (fault.Gap at)
has_gap g s at l o p n e =
    fault_is g s true false false (first_known 1 s.names (known_of g)) (first_refused 1 (map fact_of s.requests) (shared g.machine)) l o p n refl refl
    ∙ ap (λ z. Some (gap z)) (sym e)

pub has_landed : (g : Gate) (s : Step) (x : Gateway) → g.leads ≡ false → is_ours g s ≡ true → nat_le s.to (position g) ≡ false → begins g s ≡ true → IsLanded g s x
    → IsTakenBy g s true × IsAlive (takes g s) x
has_landed g s x l o p n w =
    let none : fault_of g s ≡ None = fault_is g s true false true None None l o p n w.new w.accepted in
    let past : was_taken g s ≡ false = λ i. o i && p i in (
      record { none = none; new = ap not (sym past) },
      subst (λ h. IsAlive h x) (sym (takes_as g s None false (Some w.outcome) none past w.is)) w.gate,
    )

pub not_landed : (g : Gate) (s : Step) (f : StepFault) → g.leads ≡ false → is_ours g s ≡ true → nat_le s.to (position g) ≡ false → begins g s ≡ true → IsNotLanded g s f → IsFaultOf g s f
not_landed g s fault.Led l o p n h = absurd h
not_landed g s fault.OtherLog l o p n h = absurd h
not_landed g s (fault.Gap at) l o p n h = absurd h
not_landed g s (fault.NotAccepted q why) l o p n h = fault_is g s true false true None (Some (q, refusal_of why)) l o p n h.0 h.1
not_landed g s (fault.NotNew k) l o p n h =
    fault_is g s true false true (Some (not_new k)) (first_refused 1 (map fact_of s.requests) (shared g.machine)) l o p n h refl
not_landed g s fault.Memory l o p n h = tt
not_landed g s fault.Dead l o p n h = tt

-- what is taken kills nothing
pub taken_lives : (g : Gate) (s : Step) → fault_of g s ≡ None → (takes g s).dead ≡ g.dead
taken_lives g s e = ap (λ (h : Gate). h.dead) (takes_as g s None (was_taken g s) (stepped (map fact_of s.requests) g.machine) e refl refl)
    ∙ by (was_taken g s) (stepped (map fact_of s.requests) g.machine)
  where
    by : (b : Bool) (o : Option Outcome) → (cond b g (if_some o g (landed g (entry_of s)))).dead ≡ g.dead
    by true o = refl
    by false None = refl
    by false (Some o) = refl

-- Each journal either restores or is damaged at one place.
use Rattle.std.proofs.Common.{◌≡◌, ◌⊎◌, inl, inr, ℕ, zero, suc, ◌+◌, ◌<◌, ◌≤◌, Bool, true, false, cond, List, [], ◌∷◌, ◌++◌, length, map, Option, Some, None, refl, ap, ◌∙◌, sym, subst, arith, append-nil, append_assoc, length-append}
use Rattle.std.specs.Prelude.{◌&&◌, nat_lt, option_and_then, unwrap_or}
use Rattle.std.specs.List.{AllByRecursion}
use Rattle.std.proofs.lemmas.Bool.{false≢true}
use Rattle.std.proofs.lemmas.List.{map-append}
use Rattle.std.proofs.lemmas.List.Concat.{flat_map-append}
use Rattle.iv_rows.specs.Options.{if_some}
use Rattle.iv_machine.specs.State.{State}
use Rattle.iv_once.specs.Names.{Known, Named, learned, named}
use Rattle.iv_journal.specs.Journal.{Line}
use Rattle.iv_steps.specs.Steps.{Fact, all_carried, carried}
use Rattle.iv_records.specs.Journal.{Entry, IsEntry, journal_of, names_in, record_of, requests_in, texts_of}
use Rattle.iv_records.specs.Laws.{Begins, ReadsBack}
use Rattle.iv_records.specs.Names.{limits}
use Rattle.iv_records.specs.Parsed.{record_in}
use Rattle.iv_clients.proofs.Slots.{same-Some, not_None-Some}
use Rattle.iv_gate.specs.Arriving.{Fault, fact_of, first_known, is_new, not_new, position}
use Rattle.iv_gate.specs.Gate.{Gate, known_of}
use Rattle.iv_gate.specs.Restoring.{IsDamagedAt, IsDecided, LeadOn, Restores, are_rising}

-- ---- fronts of what leads on

abbrev pub facts_of : List Entry → List Fact
facts_of es = map fact_of (requests_in es)

pub facts_of-append : (es fs : List Entry) → facts_of (es ++ fs) ≡ facts_of es ++ facts_of fs
facts_of-append es fs = ap (map fact_of) (flat_map-append (λ (e : Entry). e.requests) es fs) ∙ map-append fact_of (requests_in es) (requests_in fs)

pub names_in-append : (es fs : List Entry) → names_in (es ++ fs) ≡ names_in es ++ names_in fs
names_in-append es fs = flat_map-append (λ (e : Entry). e.names) es fs

pub all_carried-append : (s : State) (xs ys : List Fact) → all_carried (xs ++ ys) s ≡ option_and_then (all_carried ys) (all_carried xs s)
all_carried-append s [] ys = refl
all_carried-append s (x ∷ xs) ys = by (carried x s) (λ u. all_carried-append u xs ys)
  where
    by : (o : Option State) → ((u : State) → all_carried (xs ++ ys) u ≡ option_and_then (all_carried ys) (all_carried xs u))
        → option_and_then (all_carried (xs ++ ys)) o ≡ option_and_then (all_carried ys) (option_and_then (all_carried xs) o)
    by None more = refl
    by (Some u) more = more u

pub record IsLedBy (fs : List Fact) (s : State) : Type 0 where
  pub state : State
  pub carries : all_carried fs s ≡ Some state

pub front_carried : (s t : State) (xs ys : List Fact) → all_carried (xs ++ ys) s ≡ Some t → IsLedBy xs s
front_carried s t xs ys h = by (all_carried xs s) refl (sym (all_carried-append s xs ys) ∙ h)
  where
    by : (o : Option State) → all_carried xs s ≡ o → option_and_then (all_carried ys) o ≡ Some t → IsLedBy xs s
    by None e k = absurd (not_None-Some t (sym k))
    by (Some u) e k = record { state = u; carries = e }

pub front_new : (n : ℕ) (xs ys : List Named) (k : Known) → first_known n (xs ++ ys) k ≡ None → first_known n xs k ≡ None
front_new n [] ys k h = refl
front_new n (x ∷ xs) ys k h = by (is_new k x.ask) h (front_new (n + 1) xs ys (learned limits (named x) k))
  where
    by : (b : Bool) → cond b (first_known (n + 1) (xs ++ ys) (learned limits (named x) k)) (Some (not_new n)) ≡ None
        → (first_known (n + 1) (xs ++ ys) (learned limits (named x) k) ≡ None → first_known (n + 1) xs (learned limits (named x) k) ≡ None)
        → cond b (first_known (n + 1) xs (learned limits (named x) k)) (Some (not_new n)) ≡ None
    by true e more = more e
    by false e more = absurd (not_None-Some (not_new n) e)

pub both_so : (b c : Bool) → (b && c) ≡ true → (b ≡ true) × (c ≡ true)
both_so true c h = (refl, h)
both_so false c h = absurd (false≢true h)

pub are_rising-append_front : (p : ℕ) (es fs : List Entry) → are_rising p (es ++ fs) ≡ true → are_rising p es ≡ true
are_rising-append_front p [] fs h = refl
are_rising-append_front p (e ∷ es) fs h =
    let b = both_so (if_some e.position true (nat_lt p)) (are_rising (unwrap_or e.position p) (es ++ fs)) h in
    (λ i. b.0 i && are_rising-append_front (unwrap_or e.position p) es fs b.1 i)

pub front_all : {X : Type 0} (P : X → Type 0) (xs ys : List X) → AllByRecursion P (xs ++ ys) → AllByRecursion P xs
front_all P [] ys w = tt
front_all P (x ∷ xs) ys w = (w.0, front_all P xs ys w.1)

pub AllByRecursion-append_back : {X : Type 0} (P : X → Type 0) (xs ys : List X) → AllByRecursion P (xs ++ ys) → AllByRecursion P ys
AllByRecursion-append_back P [] ys w = w
AllByRecursion-append_back P (x ∷ xs) ys w = AllByRecursion-append_back P xs ys w.1

pub AllByRecursion-push : {X : Type 0} (P : X → Type 0) (xs : List X) (x : X) → AllByRecursion P xs → P x → AllByRecursion P (xs ++ x ∷ [])
AllByRecursion-push P [] x w p = (p, tt)
AllByRecursion-push P (y ∷ ys) x w p = (w.0, AllByRecursion-push P ys x w.1 p)

-- where entries lead
abbrev pub led_to : Gate → List Entry → State → Gate
led_to g es s = record g { machine = s; entries = es; kept = length es; forgiven = length es }

pub record Leads (g : Gate) (es : List Entry) : Type 0 where
  pub state : State
  pub on : LeadOn g es (led_to g es state)

pub Leads-LeadOn : (g h : Gate) (es fs : List Entry) → LeadOn g (es ++ fs) h → Leads g es
Leads-LeadOn g h es fs l =
    let c = front_carried g.machine l.state (facts_of es) (facts_of fs) (ap (λ xs. all_carried xs g.machine) (sym (facts_of-append es fs)) ∙ l.accepted) in
    record {
      state = c.state;
      on = record {
        state = c.state;
        well = front_all IsEntry es fs l.well;
        accepted = c.carries;
        names = front_new 1 (names_in es) (names_in fs) (known_of g) (ap (λ xs. first_known 1 xs (known_of g)) (sym (names_in-append es fs)) ∙ l.names);
        steps = are_rising-append_front (position g) es fs l.steps;
        gate = refl;
      };
    }

-- ---- one record more

abbrev pub lines_of : Entry → List Line
lines_of e = record_of (texts_of e)

pub journal_of-one : (e : Entry) (more : List Line) → journal_of (e ∷ []) ++ more ≡ lines_of e ++ more
journal_of-one e more = ap (λ z. z ++ more) (append-nil (lines_of e))

pub journal_first : (e : Entry) (es : List Entry) (more : List Line) → journal_of (e ∷ es) ++ more ≡ lines_of e ++ (journal_of es ++ more)
journal_first e es more = append_assoc (lines_of e) (journal_of es) more

pub journal_of-push : (es : List Entry) (e : Entry) (more : List Line) → journal_of es ++ (lines_of e ++ more) ≡ journal_of (es ++ e ∷ []) ++ more
journal_of-push es e more =
    sym (append_assoc (journal_of es) (lines_of e) more)
    ∙ ap (λ z. z ++ more) (ap (λ z. journal_of es ++ z) (sym (append-nil (lines_of e))) ∙ sym (flat_map-append lines_of es (e ∷ [])))

some_lines : (e : Entry) → IsEntry e → 0 < length (lines_of e)
some_lines e w = by (texts_of e) w.some
  where
    by : (ts : List (List ℕ)) → (ts ≡ [] → ⊥) → 0 < length (record_of ts)
    by [] h = absurd (h refl)
    by (t ∷ []) h = omega arith
    by (t ∷ u ∷ us) h = omega arith

pub not_nothing-journal_of : (e : Entry) (es : List Entry) (more : List Line) → IsEntry e → [] ≡ journal_of (e ∷ es) ++ more → ⊥
not_nothing-journal_of e es more w h =
    none (length (lines_of e)) (length (journal_of es ++ more)) (some_lines e w)
    (ap length (h ∙ journal_first e es more) ∙ length-append (lines_of e) (journal_of es ++ more))
  where
    none : (a b : ℕ) → 0 < a → 0 ≡ a + b → ⊥
    none a b h k = omega (arith, h, k)

pub record_in-lines_of : ReadsBack → (e : Entry) (more : List Line) → IsEntry e → record_in (lines_of e ++ more) ≡ Some (e, more)
record_in-lines_of reads e more w = (reads (lines_of e ++ more) e more).1 (record { entry = w; lines = refl })

abbrev Never : Gate → List Entry → Type 0
Never g es = (h : Gate) → LeadOn g es h → ⊥

tries : (g : Gate) (es : List Entry) → AllByRecursion IsEntry es → Leads g es ⊎ Never g es
tries g es w = by (all_carried (facts_of es) g.machine) refl (first_known 1 (names_in es) (known_of g)) refl (are_rising (position g) es) refl
  where
    by : (o : Option State) → all_carried (facts_of es) g.machine ≡ o → (f : Option Fault) → first_known 1 (names_in es) (known_of g) ≡ f → (t : Bool) → are_rising (position g) es ≡ t
        → Leads g es ⊎ Never g es
    by None a f b t c = inr (λ h l. not_None-Some l.state (sym l.accepted ∙ a))
    by (Some s) a (Some f) b t c = inr (λ h l. not_None-Some f (sym b ∙ l.names))
    by (Some s) a None b false c = inr (λ h l. false≢true (sym c ∙ l.steps))
    by (Some s) a None b true c = inl (record { state = s; on = record { state = s; well = w; accepted = a; names = b; steps = c; gate = refl } })

-- ---- where lines lead

-- no record stands here that leads on
abbrev Stops : Gate → List Entry → List Line → Type 0
Stops g es rest = (e : Entry) (more : List Line) (h : Gate) → rest ≡ journal_of (e ∷ []) ++ more → LeadOn g (es ++ e ∷ []) h → ⊥

record IsLed (g : Gate) (lines : List Line) : Type 0 where
  entries : List Entry
  rest : List Line
  all : lines ≡ journal_of entries ++ rest
  leads : Leads g entries
  stops : (rest ≡ []) ⊎ Stops g entries rest

-- of records that lead on the last is read as it was written
reads_this : ReadsBack → (g : Gate) (es : List Entry) (rest : List Line) (e : Entry) (more : List Line) (h : Gate) → rest ≡ journal_of (e ∷ []) ++ more → LeadOn g (es ++ e ∷ []) h
    → record_in rest ≡ Some (e, more)
reads_this reads g es rest e more h a l =
    ap record_in (a ∙ journal_of-one e more) ∙ record_in-lines_of reads e more (AllByRecursion-append_back IsEntry es (e ∷ []) l.well).0

-- `fuel` bounds the lines
far : ReadsBack → (fuel : ℕ) (g : Gate) (lines : List Line) (es : List Entry) (rest : List Line) → lines ≡ journal_of es ++ rest → Leads g es → length rest ≤ fuel → IsLed g lines
far reads zero g lines es [] a l n = record { entries = es; rest = []; all = a; leads = l; stops = inl refl }
far reads zero g lines es (x ∷ xs) a l n = absurd (let none : ⊥ = omega (arith, n) in none)
far reads (suc fuel) g lines es rest a l n = by (record_in rest) refl (λ fs more b m k. far reads fuel g lines fs more b m k)
  where
    fewer : (i j k : ℕ) → 0 < i → k ≡ i + j → k ≤ suc fuel → j ≤ fuel
    fewer i j k h e m = omega (arith, h, e, m)

    other : (x : Entry) (later : List Line) → record_in rest ≡ Some (x, later) → Never g (es ++ x ∷ []) → Stops g es rest
    other x later r bad e more h b m =
        let same = same-Some {X = Entry × List Line} (e, more) (x, later) (sym (reads_this reads g es rest e more h b m) ∙ r) in
        bad h (subst (λ z. LeadOn g (es ++ z ∷ []) h) (ap (λ (z : Entry × List Line). z.0) same) m)

    one : (x : Entry) (later : List Line) → record_in rest ≡ Some (x, later) → Begins rest x later
        → ((fs : List Entry) (more : List Line) → lines ≡ journal_of fs ++ more → Leads g fs → length more ≤ fuel → IsLed g lines) → Leads g (es ++ x ∷ []) ⊎ Never g (es ++ x ∷ []) → IsLed g lines
    one x later r b on (inl m) =
        on (es ++ x ∷ []) later (a ∙ (ap (λ z. journal_of es ++ z) b.lines ∙ journal_of-push es x later)) m
        (fewer (length (lines_of x)) (length later) (length rest) (some_lines x b.entry) (ap length b.lines ∙ length-append (lines_of x) later) n)
    one x later r b on (inr bad) = record { entries = es; rest = rest; all = a; leads = l; stops = inr (other x later r bad) }

    by : (o : Option (Entry × List Line)) → record_in rest ≡ o
        → ((fs : List Entry) (more : List Line) → lines ≡ journal_of fs ++ more → Leads g fs → length more ≤ fuel → IsLed g lines) → IsLed g lines
    by None r on = record {
      entries = es;
      rest = rest;
      all = a;
      leads = l;
      stops = inr (λ e more h b m. not_None-Some {X = Entry × List Line} (e, more) (sym (reads_this reads g es rest e more h b m) ∙ r));
    }
    by (Some (x, later)) r on =
        let b = (reads rest x later).0 r in one x later r b on (tries g (es ++ x ∷ []) (AllByRecursion-push IsEntry es x l.on.well b.entry))

leads_nowhere : (g : Gate) → Leads g []
leads_nowhere g = record { state = g.machine; on = record { state = g.machine; well = tt; accepted = refl; names = refl; steps = refl; gate = refl } }

either_way : ReadsBack → (g : Gate) (lines : List Line) → ((h : Gate) × Restores g lines h) ⊎ ((place : ℕ) × IsDamagedAt g lines place)
either_way reads g lines = by (far reads (length lines) g lines [] lines refl (leads_nowhere g) (let n : length lines ≤ length lines = omega arith in n))
  where
    less : (i j k : ℕ) → k ≡ i + suc j → i < k
    less i j k h = omega (arith, h)

    stopped : (es : List Entry) (rest : List Line) → lines ≡ journal_of es ++ rest → Leads g es → (rest ≡ []) ⊎ Stops g es rest → ((h : Gate) × Restores g lines h) ⊎ ((place : ℕ) × IsDamagedAt g lines place)
    stopped es [] a l s = inl (led_to g es l.state, record { all = a ∙ append-nil (journal_of es); leads = l.on })
    stopped es (x ∷ xs) a l (inl h) = absurd (none h)
      where
        none : (x ∷ xs) ≡ [] → ⊥
        none k = cc k
    stopped es (x ∷ xs) a l (inr s) = inr (
      length (journal_of es),
      record {
        entries = es;
        gate = led_to g es l.state;
        rest = x ∷ xs;
        all = a;
        leads = l.on;
        after = refl;
        some = less (length (journal_of es)) (length xs) (length lines) (ap length a ∙ length-append (journal_of es) (x ∷ xs));
        bad = s;
      },
    )

    by : IsLed g lines → ((h : Gate) × Restores g lines h) ⊎ ((place : ℕ) × IsDamagedAt g lines place)
    by l = stopped l.entries l.rest l.all l.leads l.stops

-- ---- once alone

-- two readings of one journal
pub data Compared (es fs : List Entry) (r s : List Line) : Type 0 where
  same : es ≡ fs → r ≡ s → Compared es fs r s
  shorter : (f : Entry) (more : List Entry) → fs ≡ es ++ f ∷ more → r ≡ journal_of (f ∷ more) ++ s → Compared es fs r s
  longer : (e : Entry) (more : List Entry) → es ≡ fs ++ e ∷ more → s ≡ journal_of (e ∷ more) ++ r → Compared es fs r s

pub Compared-journal_of : ReadsBack → (es fs : List Entry) (r s : List Line) → AllByRecursion IsEntry es → AllByRecursion IsEntry fs → journal_of es ++ r ≡ journal_of fs ++ s → Compared es fs r s
Compared-journal_of reads [] [] r s w v h = same refl h
Compared-journal_of reads [] (f ∷ fs) r s w v h = shorter f fs refl h
Compared-journal_of reads (e ∷ es) [] r s w v h = longer e es refl (sym h)
Compared-journal_of reads (e ∷ es) (f ∷ fs) r s w v h =
    let one : record_in (journal_of (e ∷ es) ++ r) ≡ Some (e, journal_of es ++ r) = ap record_in (journal_first e es r) ∙ record_in-lines_of reads e (journal_of es ++ r) w.0 in
    let two : record_in (journal_of (f ∷ fs) ++ s) ≡ Some (f, journal_of fs ++ s) = ap record_in (journal_first f fs s) ∙ record_in-lines_of reads f (journal_of fs ++ s) v.0 in
    let pair = same-Some {X = Entry × List Line} (e, journal_of es ++ r) (f, journal_of fs ++ s) (sym one ∙ (ap record_in h ∙ two)) in
    more_of (ap (λ (z : Entry × List Line). z.0) pair) (Compared-journal_of reads es fs r s w.1 v.1 (ap (λ (z : Entry × List Line). z.1) pair))
  where
    more_of : e ≡ f → Compared es fs r s → Compared (e ∷ es) (f ∷ fs) r s
    more_of k (same a b) = same (λ i. k i ∷ a i) b
    more_of k (shorter g more a b) = shorter g more (λ i. sym k i ∷ a i) b
    more_of k (longer g more a b) = longer g more (λ i. k i ∷ a i) b

-- where a journal is damaged, no other reading of it goes on
no_further : (g : Gate) (es fs : List Entry) (h : Gate) (rest s : List Line) (f : Entry) (more : List Entry) → Stops g es rest → LeadOn g fs h → fs ≡ es ++ f ∷ more → rest ≡ journal_of (f ∷ more) ++ s → ⊥
no_further g es fs h rest s f more stops l a b =
    let on : LeadOn g ((es ++ f ∷ []) ++ more) h = subst (λ z. LeadOn g z h) (a ∙ sym (append_assoc es (f ∷ []) more)) l in
    let x = Leads-LeadOn g h (es ++ f ∷ []) more on in
    stops f (journal_of more ++ s) (led_to g (es ++ f ∷ []) x.state) (b ∙ (journal_first f more s ∙ sym (journal_of-one f (journal_of more ++ s)))) x.on

pub IsEntry-append : (es fs : List Entry) (e : Entry) (more : List Entry) → fs ≡ es ++ e ∷ more → AllByRecursion IsEntry fs → IsEntry e
IsEntry-append es fs e more a w = (AllByRecursion-append_back IsEntry es (e ∷ more) (subst (AllByRecursion IsEntry) a w)).0

restored_once : ReadsBack → (g : Gate) (lines : List Line) (h i : Gate) → Restores g lines h → Restores g lines i → h ≡ i
restored_once reads g lines h i x y = by (Compared-journal_of reads h.entries i.entries [] [] x.leads.well y.leads.well (append-nil (journal_of h.entries) ∙ (sym x.all ∙ (y.all ∙ sym (append-nil (journal_of i.entries))))))
  where
    by : Compared h.entries i.entries [] [] → h ≡ i
    by (same a b) =
        let state : x.leads.state ≡ y.leads.state = same-Some x.leads.state y.leads.state (sym x.leads.accepted ∙ (ap (λ es. all_carried (facts_of es) g.machine) a ∙ y.leads.accepted)) in
        x.leads.gate ∙ ((λ k. led_to g (a k) (state k)) ∙ sym y.leads.gate)
    by (shorter f more a b) = absurd (not_nothing-journal_of f more [] (IsEntry-append h.entries i.entries f more a y.leads.well) b)
    by (longer e more a b) = absurd (not_nothing-journal_of e more [] (IsEntry-append i.entries h.entries e more a x.leads.well) b)

damaged_once : ReadsBack → (g : Gate) (lines : List Line) (p q : ℕ) → IsDamagedAt g lines p → IsDamagedAt g lines q → p ≡ q
damaged_once reads g lines p q x y = by (Compared-journal_of reads x.entries y.entries x.rest y.rest x.leads.well y.leads.well (sym x.all ∙ y.all))
  where
    by : Compared x.entries y.entries x.rest y.rest → p ≡ q
    by (same a b) = x.after ∙ (ap (λ z. length (journal_of z)) a ∙ sym y.after)
    by (shorter f more a b) = absurd (no_further g x.entries y.entries y.gate x.rest y.rest f more x.bad y.leads a b)
    by (longer e more a b) = absurd (no_further g y.entries x.entries x.gate y.rest x.rest e more y.bad x.leads a b)

never_both : ReadsBack → (g : Gate) (lines : List Line) (h : Gate) (place : ℕ) → Restores g lines h → IsDamagedAt g lines place → ⊥
never_both reads g lines h place x y = by (Compared-journal_of reads y.entries h.entries y.rest [] y.leads.well x.leads.well (sym y.all ∙ (x.all ∙ sym (append-nil (journal_of h.entries)))))
  where
    itself : (n m : ℕ) → n ≡ m → n < m → ⊥
    itself n m h k = omega (arith, h, k)

    by : Compared y.entries h.entries y.rest [] → ⊥
    by (same a b) = itself place (length lines) (y.after ∙ (ap length (sym (append-nil (journal_of y.entries)) ∙ ap (λ z. journal_of y.entries ++ z) (sym b)) ∙ ap length (sym y.all))) y.some
    by (shorter f more a b) = no_further g y.entries h.entries h y.rest [] f more y.bad x.leads a b
    by (longer e more a b) = not_nothing-journal_of e more y.rest (IsEntry-append h.entries y.entries e more a y.leads.well) b

pub IsDecided-ReadsBack : ReadsBack → (g : Gate) (lines : List Line) → IsDecided g lines
IsDecided-ReadsBack reads g lines = record { either = either_way reads g lines; one_gate = restored_once reads g lines; one_place = damaged_once reads g lines; not_both = never_both reads g lines }

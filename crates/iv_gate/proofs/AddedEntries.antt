-- What an event adds to the journal may stand there: entries as it has them, names that are new, steps after the last.
use Rattle.std.proofs.Common.{◌≡◌, ℕ, zero, suc, ◌+◌, ◌<◌, ◌%◌, Bool, true, false, cond, not, ◌||◌, List, [], ◌∷◌, ◌++◌, length, map, Option, Some, None, option_map, is_some, take, refl, ap, ◌∙◌, sym, subst, arith, append-nil}
use Rattle.std.specs.Prelude.{◌==◌, ◌&&◌, ◌-◌, ◌/◌, ◌^◌, nat_lt, unwrap_or}
use Rattle.std.specs.Int.{to_be_bytes, w32}
use Rattle.std.specs.List.{AllByRecursion, list_all, slice_index}
use Rattle.std.proofs.lemmas.Bool.{eq-eqb, eqb-true, false≢true, lt-ltb, ltb-true}
use Rattle.std.proofs.lemmas.Bool.Decides.{nat_tests}
use Rattle.std.proofs.lemmas.List.Folds.{list_all-append}
use Rattle.sha2.specs.Sha256.{digest_bytes, final_hash, initial_hash_256, sha256}
use Rattle.sha2.proofs.Facts256.{length-sha256}
use Rattle.serde_json.specs.Data.{Data}
use Rattle.iv_rows.specs.Names.{is_name}
use Rattle.iv_rows.specs.Options.{if_some}
use Rattle.iv_machine.specs.Act.{Act, begin, finish, subscribe, unsubscribe, Refusal, Reply}
use Rattle.iv_message.specs.Lines.{IsLine, is_clean}
use Rattle.iv_message.specs.Message.{Message, no_json, too_long, no_object, no_request, request}
use Rattle.iv_message.specs.Told.{Told, replied, told_text}
use Rattle.iv_once.specs.Names.{Ask, Known, Named, Verdict, carry, again, another, late, foreign, ahead, over, learned, named, verdict}
use Rattle.iv_steps.specs.Steps.{first_refused, shared}
use Rattle.iv_clients.specs.Clients.{Client}
use Rattle.iv_records.specs.Journal.{Entry, IsEntry, IsNamed, IsRequest, Request, claim_said, has_newline, is_digest, is_shared, line_said, names_in, position_of, said_by}
use Rattle.iv_records.specs.Laws.{ClaimsAreWell, HoldersAreText}
use Rattle.iv_records.specs.Names.{Claim, limits, is_count}
use Rattle.iv_records.proofs.CutParts.{but_last-push}
use Rattle.iv_gate.specs.Arriving.{Fault, Step, decided_here, entry_of, fact_of, fault_of, first_known, gap, was_taken, is_log, is_new, not_accepted, not_new, other_log, position}
use Rattle.iv_gate.specs.Gate.{Gate, answer_text, asked_by, came, went, entries_of, is_accepted, known_at, known_of, may_have, names_of, next_position, is_elsewhere}
use Rattle.iv_gate.specs.Restoring.{are_rising}
use Rattle.iv_gate.proofs.NameVerdicts.{is_new-verdict, first_known-append}
use Rattle.iv_gate.proofs.JournalDamage.{both_so, names_in-append}
use Rattle.iv_gate.proofs.OwnReplies.{act_added, carried_reply, decided_added, said_added, shared_added, verdict_added}
use Rattle.iv_gate.proofs.JournalRequests.{IsRequest-said_by}
use Rattle.iv_gate.proofs.StepRelations.{HasEntries, entries_kit, came_keeps, request_of, went_keeps}

-- ---- one list of entries after another

all_then : {X : Type 0} (P : X → Type 0) (xs ys : List X) → AllByRecursion P xs → AllByRecursion P ys → AllByRecursion P (xs ++ ys)
all_then P [] ys a b = b
all_then P (x ∷ xs) ys a b = (a.0, all_then P xs ys a.1 b)

-- where names are counted from does not matter
any_place : (n m : ℕ) (es : List Named) (k : Known) → first_known n es k ≡ None → first_known m es k ≡ None
any_place n m [] k h = refl
any_place n m (e ∷ es) k h = by (is_new k e.ask) h (any_place (n + 1) (m + 1) es (learned limits (named e) k))
  where
    by : (b : Bool) → cond b (first_known (n + 1) es (learned limits (named e) k)) (Some (not_new n)) ≡ None
        → (first_known (n + 1) es (learned limits (named e) k) ≡ None → first_known (m + 1) es (learned limits (named e) k) ≡ None)
        → cond b (first_known (m + 1) es (learned limits (named e) k)) (Some (not_new m)) ≡ None
    by true f more = more f
    by false f more = absurd (false≢true (sym (ap is_some f)))

rising_then : (p : ℕ) (es fs : List Entry) → are_rising p es ≡ true → are_rising (position_of p es) fs ≡ true → are_rising p (es ++ fs) ≡ true
rising_then p [] fs h k = k
rising_then p (e ∷ es) fs h k =
    let b = both_so (if_some e.position true (nat_lt p)) (are_rising (unwrap_or e.position p) es) h in
    (λ i. b.0 i && rising_then (unwrap_or e.position p) es fs b.1 k i)

-- ---- the journal of a gateway

pub record IsBooked (g : Gate) : Type 0 where
  pub well : AllByRecursion IsEntry g.entries
  pub names : first_known 1 (names_in g.entries) (known_at g.head) ≡ None
  pub steps : are_rising g.head.position g.entries ≡ true

pub record MayAdd (g : Gate) (more : List Entry) : Type 0 where
  pub well : AllByRecursion IsEntry more
  pub names : first_known 1 (names_in more) (known_of g) ≡ None
  pub steps : are_rising (position g) more ≡ true

pub IsBooked-MayAdd : (g h : Gate) (more : List Entry) → h.entries ≡ g.entries ++ more → h.head ≡ g.head → MayAdd g more → IsBooked g → IsBooked h
IsBooked-MayAdd g h more e f a b = record {
  well = subst (AllByRecursion IsEntry) (sym e) (all_then IsEntry g.entries more b.well a.well);
  names = (λ i. first_known 1 (names_in (e i)) (known_at (f i)))
      ∙ (ap (λ ns. first_known 1 ns (known_at g.head)) (names_in-append g.entries more) ∙ first_known-append 1 (names_in g.entries) (names_in more) (known_at g.head) b.names (λ m. any_place 1 m (names_in more) (known_of g) a.names));
  steps = (λ i. are_rising (f i).position (e i)) ∙ rising_then g.head.position g.entries more b.steps a.steps;
}

pub IsBooked-same_entries : (g h : Gate) → h.entries ≡ g.entries → h.head ≡ g.head → IsBooked g → IsBooked h
IsBooked-same_entries g h e f b = record {
  well = subst (AllByRecursion IsEntry) (sym e) b.well;
  names = (λ i. first_known 1 (names_in (e i)) (known_at (f i))) ∙ b.names;
  steps = (λ i. are_rising (f i).position (e i)) ∙ b.steps;
}

nothing_more : (g : Gate) → MayAdd g []
nothing_more g = record { well = tt; names = refl; steps = refl }

-- ---- a request

no_cons : {X : Type 0} (x : X) (xs : List X) → (x ∷ xs) ≡ [] → ⊥
no_cons x xs h = cc h

-- a name that is to have an answer
record IsAsked (g : Gate) (a : Ask) (r : Reply) : Type 0 where
  well : IsNamed (record { ask = a; refused = not (is_accepted r); answer = answer_text r })
  fresh : is_new (known_of g) a ≡ true

abbrev AreAsked : Gate → Option Ask → Reply → Type 0
AreAsked g None r = Unit {0}
AreAsked g (Some a) r = IsAsked g a r

-- the next position is one of a journal, and after the last
next_counts : (g : Gate) → if_some (next_position g) true is_count ≡ true
next_counts g = by g.leads (is_count (position g + 1)) refl
  where
    by : (l c : Bool) → is_count (position g + 1) ≡ c → if_some (cond (l && c) (Some (position g + 1)) None) true is_count ≡ true
    by true true e = e
    by true false e = refl
    by false c e = refl

next_rises : (g : Gate) → if_some (next_position g) true (nat_lt (position g)) ≡ true
next_rises g = by (g.leads && is_count (position g + 1))
  where
    by : (l : Bool) → if_some (cond l (Some (position g + 1)) None) true (nat_lt (position g)) ≡ true
    by true = lt-ltb (position g) (position g + 1) (omega arith)
    by false = refl

rises_on : (g : Gate) → (if_some (next_position g) true (nat_lt (position g)) && true) ≡ true
rises_on g = ap (λ b. b && true) (next_rises g)

request_more : (g : Gate) (q : Request) (name : Option Ask) (r : Reply) → IsRequest q → AreAsked g name r → MayAdd g (entries_of (next_position g) q name r)
request_more g q None r w a = by (is_shared q.act) (is_accepted r)
  where
    by : (x y : Bool) → MayAdd g (cond (x && (y || false)) (record { requests = cond y (q ∷ []) []; names = []; position = next_position g } ∷ []) [])
    by false y = nothing_more g
    by true false = nothing_more g
    by true true = record { well = (record { requests = (w, tt); names = tt; position = next_counts g; some = λ h. no_cons _ _ h }, tt); names = refl; steps = rises_on g }
request_more g q (Some a) r w x = by (is_shared q.act) (is_accepted r) refl
  where
    first : Named
    first = record { ask = a; refused = not (is_accepted r); answer = answer_text r }

    fresh : first_known 1 (first ∷ []) (known_of g) ≡ None
    fresh = ap (λ b. cond b None (Some (not_new 1))) x.fresh

    by : (s y : Bool) → is_accepted r ≡ y → MayAdd g (cond (s && (y || true)) (record { requests = cond y (q ∷ []) []; names = first ∷ []; position = next_position g } ∷ []) [])
    by false y e = nothing_more g
    by true true e = record { well = (record { requests = (w, tt); names = (x.well, tt); position = next_counts g; some = λ h. no_cons _ _ h }, tt); names = fresh; steps = rises_on g }
    by true false e = record { well = (record { requests = tt; names = (x.well, tt); position = next_counts g; some = λ h. no_cons _ _ h }, tt); names = fresh; steps = rises_on g }

-- ---- a name

small_byte : (n : ℕ) → nat_lt (n % 256) 256 ≡ true
small_byte n = grind (arith, nat_tests)

word_bytes : (n : ℕ) → list_all (λ b. nat_lt b 256) (to_be_bytes w32 n) ≡ true
word_bytes n = (λ i. small_byte (n / 256 ^ 3) i && (small_byte (n / 256 ^ 2) i && (small_byte (n / 256 ^ 1) i && (small_byte n i && true))))

hash_bytes : (h : List ℕ) (n : ℕ) → list_all (λ b. nat_lt b 256) (digest_bytes h n) ≡ true
unfolding digest_bytes
hash_bytes h zero = refl
hash_bytes h (suc n) =
    list_all-append (λ b. nat_lt b 256) (digest_bytes h n) (to_be_bytes w32 (slice_index h n)) ∙ (λ i. hash_bytes h n i && word_bytes (slice_index h n) i)

digest_well : (m : List ℕ) → is_digest (sha256 m) ≡ true
unfolding sha256
digest_well m = (λ i. eq-eqb (length (sha256 m)) 32 (length-sha256 m) i && hash_bytes (final_hash initial_hash_256 m) 8 i)

clean_one : (text : List ℕ) → is_clean text ≡ true → has_newline text ≡ false
clean_one [] h = refl
clean_one (b ∷ text) h = by (b == 10) h (clean_one text)
  where
    by : (t : Bool) → (not t && is_clean text) ≡ true → (is_clean text ≡ true → has_newline text ≡ false) → (t || has_newline text) ≡ false
    by true k more = absurd (false≢true k)
    by false k more = more k

abbrev pub AreLines : Type 0
AreLines = (t : Told) → IsLine (told_text t)

answer_one : AreLines → (r : Reply) → has_newline (answer_text r) ≡ false
answer_one lines r =
    let l = lines (replied None r) in
    let same : answer_text r ≡ l.0 = sym (but_last-push (answer_text r) 10) ∙ (ap (λ t. take (length t - 1) t) l.1 ∙ but_last-push l.0 10) in
    ap has_newline same ∙ clean_one l.0 l.2

-- what laws of lower crates say
pub record Texts : Type 0 where
  pub claims : ClaimsAreWell
  pub holders : HoldersAreText
  pub lines : AreLines

named_well : Texts → (c : Client) (text : List ℕ) (k : Claim) (r : Reply) → is_name c.role ≡ true → claim_said text ≡ Some k
    → IsNamed (record { ask = asked_by c (line_said text) k; refused = not (is_accepted r); answer = answer_text r })
named_well texts c text k r name h =
    let x = texts.claims text k h in
    record {
      name = x.name;
      epoch = x.epoch;
      count = x.count;
      holder = texts.holders c.role c.user name;
      digest = digest_well (line_said text);
      line = answer_one texts.lines r;
    }

-- ---- a message

module _ (texts : Texts) (g : Gate) (c : Client) (text : List ℕ) (name : is_name c.role ≡ true) where
  decided_more : (q : Request) (o : Option Ask) → IsRequest q → ((r : Reply) → AreAsked g o r) → MayAdd g (decided_added g q o)
  decided_more q o w a = by (is_elsewhere g o)
    where
      by : (t : Bool) → MayAdd g (cond t [] (entries_of (next_position g) q o (carried_reply g q)))
      by true = nothing_more g
      by false = request_more g q o (carried_reply g q) w (a (carried_reply g q))

  verdict_more : (q : Request) (k : Claim) → q.line ≡ line_said text → IsRequest q → claim_said text ≡ Some k → (v : Verdict) → verdict (names_of g) (asked_by c q.line k) ≡ v
      → MayAdd g (verdict_added g q (asked_by c q.line k) v)
  verdict_more q k l w h carry e = decided_more q (Some (asked_by c q.line k)) w (λ r. record {
    well = subst (λ z. IsNamed (record { ask = asked_by c z k; refused = not (is_accepted r); answer = answer_text r })) (sym l) (named_well texts c text k r name h);
    fresh = is_new-verdict (names_of g) (asked_by c q.line k) refl e;
  })
  verdict_more q k l w h (again answer) e = nothing_more g
  verdict_more q k l w h another e = nothing_more g
  verdict_more q k l w h late e = nothing_more g
  verdict_more q k l w h foreign e = nothing_more g
  verdict_more q k l w h ahead e = nothing_more g
  verdict_more q k l w h over e = nothing_more g

  shared_more : (q : Request) → q.line ≡ line_said text → IsRequest q → MayAdd g (shared_added g c q (claim_said text))
  shared_more q l w = by (claim_said text) refl
    where
      by : (o : Option Claim) → claim_said text ≡ o → MayAdd g (shared_added g c q o)
      by None h = decided_more q None w (λ r. tt)
      by (Some k) h = verdict_more q k l w h (verdict (names_of g) (asked_by c q.line k)) refl

  act_more : (id : Option Data) (act : Act) → said_by text ≡ request id act → MayAdd g (act_added g c text act)
  act_more id (begin role) h = nothing_more g
  act_more id finish h = nothing_more g
  act_more id (subscribe rel) h = nothing_more g
  act_more id (unsubscribe own) h = nothing_more g
  act_more id act h = shared_more (request_of c text act) refl (IsRequest-said_by c.role text id act name refl h)

  pub said_more : (m : Message) → said_by text ≡ m → MayAdd g (said_added g c text m)
  said_more no_json h = nothing_more g
  said_more too_long h = nothing_more g
  said_more no_object h = nothing_more g
  said_more (no_request id why) h = nothing_more g
  said_more (request id act) h = by (may_have (claim_said text) act)
    where
      by : (t : Bool) → MayAdd g (cond t (act_added g c text act) [])
      by true = act_more id act h
      by false = nothing_more g

-- ---- a step

pub MayAdd-entry_of : (g : Gate) (s : Step) → IsEntry (entry_of s) → first_known 1 s.names (known_of g) ≡ None → position g < s.to → MayAdd g (entry_of s ∷ [])
MayAdd-entry_of g s w n p = record {
  well = (w, tt);
  names = ap (λ ns. first_known 1 ns (known_of g)) (append-nil s.names) ∙ n;
  steps = (λ i. lt-ltb (position g) s.to p i && true);
}

-- ---- what adds nothing

pub entries-came : (g : Gate) (m : ℕ) (token : List ℕ) → (came g m token).entries ≡ g.entries
entries-came g m token = came_keeps (HasEntries g.entries) (entries_kit g.entries) g m token (λ h t e x. x) refl

pub entries-went : (g : Gate) (m : ℕ) → (went g m).entries ≡ g.entries
entries-went g m = went_keeps (HasEntries g.entries) (entries_kit g.entries) g m (λ x. x) refl

-- ---- what a step that is taken has

pub record IsNext (g : Gate) (s : Step) : Type 0 where
  pub new : first_known 1 s.names (known_of g) ≡ None
  pub rises : position g < s.to
  pub accepted : is_some (first_refused 1 (map fact_of s.requests) (shared g.machine)) ≡ false

pub IsNext-fault_of : (g : Gate) (s : Step) → is_some (fault_of g s) ≡ false → was_taken g s ≡ false → IsNext g s
IsNext-fault_of g s f b =
    by (if_some g.head.log false (is_log s.log)) ((s.from == position g) && nat_lt s.from s.to) refl (first_known 1 s.names (known_of g)) refl
    (ap (λ t. is_some (cond t None later)) (sym b) ∙ follows g.leads (cond (was_taken g s) None later) f)
  where
    follows : (leads : Bool) (o : Option Fault) → is_some (cond leads (Some decided_here) o) ≡ false → is_some o ≡ false
    follows true o h = absurd (false≢true (sym h))
    follows false o h = h

    refusal : Option Fault
    refusal = option_map (λ (p : ℕ × Refusal). not_accepted p.0 p.1) (first_refused 1 (map fact_of s.requests) (shared g.machine))

    later : Option Fault
    later =
        cond (not (if_some g.head.log false (is_log s.log))) (Some other_log)
        (cond (not ((s.from == position g) && nat_lt s.from s.to)) (Some (gap (position g))) (if_some (first_known 1 s.names (known_of g)) refusal Some))

    rises : ((s.from == position g) && nat_lt s.from s.to) ≡ true → position g < s.to
    rises e =
        let p = both_so (s.from == position g) (nat_lt s.from s.to) e in
        subst (λ n. n < s.to) (eqb-true s.from (position g) p.0) (ltb-true s.from s.to p.1)

    none : (o : Option (ℕ × Refusal)) → is_some (option_map (λ (p : ℕ × Refusal). not_accepted p.0 p.1) o) ≡ false → is_some o ≡ false
    none None h = refl
    none (Some r) h = h

    by : (l a : Bool) → ((s.from == position g) && nat_lt s.from s.to) ≡ a → (o : Option Fault) → first_known 1 s.names (known_of g) ≡ o
        → is_some (cond (not l) (Some other_log) (cond (not a) (Some (gap (position g))) (if_some o refusal Some))) ≡ false → IsNext g s
    by false a e o n k = absurd (false≢true (sym k))
    by true false e o n k = absurd (false≢true (sym k))
    by true true e (Some x) n k = absurd (false≢true (sym k))
    by true true e None n k = record { new = n; rises = rises e; accepted = none (first_refused 1 (map fact_of s.requests) (shared g.machine)) k }

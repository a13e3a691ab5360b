-- What the code keeps of entries that are added: names, positions, lines and the shape.
use Rattle.std.proofs.Common.{◌≡◌, ◌∙◌, ◌≤◌, ℕ, ◌+◌, ◌-◌, Bool, true, false, cond, not, ◌||◌, List, [], ◌∷◌, ◌++◌, length, drop, map, Option, Some, None, is_some, refl, ap, sym, subst, append-nil, arith, length-append}
use Rattle.std.specs.Prelude.{◌&&◌, bytes_eq, flat_map, option_map, unwrap_or}
use Rattle.std.proofs.lemmas.Bool.{false≢true}
use Rattle.std.proofs.lemmas.List.{drop-append-le, take-append-le}
use Rattle.std.proofs.lemmas.List.Concat.{flat_map-append}
use Rattle.std.proofs.lemmas.Slice.Eq.{bytes_eq-Decides}
use Rattle.iv_journal.specs.Journal.{Line}
use Rattle.iv_once.specs.Names as once
use Rattle.iv_machine.specs.Act.{Act, Reply}
use Rattle.iv_once.specs.Names.{Ask, Known, Named, Names, blamed, learned, own_of, pushed, spent_by, spent_more}
use Rattle.iv_once.specs.Views.{names_of as names_in_code}
use Rattle.iv_message.specs.Told.{made, told_text}
use Rattle.iv_records.specs.Journal.{Entry, Request, is_shape, is_shared, journal_of, name_text, names_in, position_of, record_of, shape_of, texts_of}
use Rattle.iv_records.specs.Names.{limits, place_text}
use Rattle.iv_records.specs.Parsed.{text_of_request}
use Rattle.iv_gate.specs.Arriving.{position, settled_at}
use Rattle.iv_gate.specs.Gate.{Gate, answer_text, answering, entered, entries_of, is_accepted, known_at, known_by, names_of, place_of, shape_text, spent_in}
use Rattle.iv_gate.proofs.ShapeTexts.{shape_of-append}
use Rattle.iv_rows.specs.Options.{if_some}
use Rattle.iv_arrivals.specs.Entering.{lines_entered, shape_in, text_at}
use Rattle.iv_arrivals.specs.Speaking.{Asking, request_of}
use Rattle.iv_gateway.specs.Views.{IsAlive, IsPending}
use Rattle.iv_gateway.specs.declared.gateway.Gateway.{Gateway}

-- ---- where names stand

abbrev pub placed_in : Names → List ℕ → List ℕ
placed_in n holder = let o = own_of n.known holder in place_text (record { epoch = o.epoch; count = o.count })

-- as the code has it, and as the gateway does
pub placed_in-place_text : (g : Gate) (x : Gateway) (h holder : List ℕ) → names_in_code x.names ≡ names_of g → h ≡ holder
    → placed_in (names_in_code x.names) h ≡ place_text (place_of g holder)
placed_in-place_text g x h holder n s = λ i. placed_in (n i) (s i)

-- ---- refusals are counted in any order

swap_by : (e f : Bool) (a b : ℕ) (o : Option ℕ) → (e ≡ true → f ≡ true → ⊥) → cond f (Some b) (cond e (Some a) o) ≡ cond e (Some a) (cond f (Some b) o)
swap_by true true a b o h = absurd (h refl refl)
swap_by true false a b o h = refl
swap_by false true a b o h = refl
swap_by false false a b o h = refl

others : (a b : List ℕ) → bytes_eq a b ≡ false → bytes_eq b a ≡ false
others a b e = by (bytes_eq b a) refl
  where
    by : (t : Bool) → bytes_eq b a ≡ t → bytes_eq b a ≡ false
    by true k = absurd (false≢true (sym e ∙ (bytes_eq-Decides a b).1 (sym ((bytes_eq-Decides b a).0 k))))
    by false k = k

swap_two : (s : List ℕ → Option ℕ) (a b h : List ℕ) → spent_more (spent_more s (Some a)) (Some b) h ≡ spent_more (spent_more s (Some b)) (Some a) h
swap_two s a b h = by (bytes_eq a b) refl
  where
    same : a ≡ b → spent_more (spent_more s (Some a)) (Some b) h ≡ spent_more (spent_more s (Some b)) (Some a) h
    same e = ap (λ z. spent_more (spent_more s (Some a)) (Some z) h) (sym e) ∙ ap (λ z. spent_more (spent_more s (Some z)) (Some a) h) e

    by : (t : Bool) → bytes_eq a b ≡ t → spent_more (spent_more s (Some a)) (Some b) h ≡ spent_more (spent_more s (Some b)) (Some a) h
    by true e = same ((bytes_eq-Decides a b).0 e)
    by false e =
        let l : spent_by (spent_more s (Some a)) b ≡ spent_by s b = ap (λ t. unwrap_or (cond t (Some (spent_by s a + 1)) (s b)) 0) e in
        let r : spent_by (spent_more s (Some b)) a ≡ spent_by s a = ap (λ t. unwrap_or (cond t (Some (spent_by s b + 1)) (s a)) 0) (others a b e) in
        ap (λ n. cond (bytes_eq b h) (Some (n + 1)) (cond (bytes_eq a h) (Some (spent_by s a + 1)) (s h))) l
        ∙ (swap_by (bytes_eq a h) (bytes_eq b h) (spent_by s a + 1) (spent_by s b + 1) (s h)
        (λ x y. false≢true (sym e ∙ (bytes_eq-Decides a b).1 ((bytes_eq-Decides a h).0 x ∙ sym ((bytes_eq-Decides b h).0 y))))
        ∙ sym (ap (λ n. cond (bytes_eq a h) (Some (n + 1)) (cond (bytes_eq b h) (Some (spent_by s b + 1)) (s h))) r))

swap : (s : List ℕ → Option ℕ) (o p : Option (List ℕ)) (h : List ℕ) → spent_more (spent_more s o) p h ≡ spent_more (spent_more s p) o h
swap s None None h = refl
swap s None (Some b) h = refl
swap s (Some a) None h = refl
swap s (Some a) (Some b) h = swap_two s a b h

spent_at : (es : List Named) (n : Named) (h : List ℕ) → spent_in (es ++ n ∷ []) h ≡ spent_more (spent_in es) (blamed (once.named n)) h
spent_at [] n h = refl
spent_at (e ∷ es) n h =
    ap (λ s. spent_more s (blamed (once.named e)) h) (λ i x. spent_at es n x i) ∙ swap (spent_in es) (blamed (once.named n)) (blamed (once.named e)) h

spent_last : (es : List Named) (n : Named) → spent_in (es ++ n ∷ []) ≡ spent_more (spent_in es) (blamed (once.named n))
spent_last es n = λ i h. spent_at es n h i

-- ---- names

known_last : (k : Known) (es : List Named) (n : Named) → known_by k (es ++ n ∷ []) ≡ learned limits (once.named n) (known_by k es)
known_last k [] n = refl
known_last k (e ∷ es) n = known_last (learned limits (once.named e) k) es n

abbrev pub entry_at : Option ℕ → List Request → List Named → Entry
entry_at p qs ns = record { requests = qs; names = ns; position = p }

abbrev pub entry_with : List Request → List Named → Entry
entry_with qs ns = entry_at None qs ns

abbrev pub names_by : Gate → List Named → List Named → Names
names_by g all spent = record { limits = limits; known = known_by (known_at g.head) all; spent = spent_in spent }

-- a name more
pub names_by-push : (g : Gate) (all spent : List Named) (n : Named)
    → names_by g (all ++ n ∷ []) (spent ++ n ∷ []) ≡ pushed (names_by g all spent) (once.named n)
names_by-push g all spent n = λ i. record { limits = limits; known = known_last (known_at g.head) all n i; spent = spent_last spent n i }

names_more : (g : Gate) (p : Option ℕ) (qs : List Request) (ns : List Named) → g.forgiven ≤ length g.entries
    → names_of (entered g (entry_at p qs ns ∷ [])) ≡ names_by g (names_in g.entries ++ ns) (names_in (drop g.forgiven g.entries) ++ ns)
names_more g p qs ns f =
    let e = entry_at p qs ns in
    let more : (es : List Entry) → names_in (es ++ e ∷ []) ≡ names_in es ++ ns = λ es. flat_map-append (λ (x : Entry). x.names) es (e ∷ [])
    ∙ ap (λ z. names_in es ++ z) (append-nil ns) in
    λ i. names_by g (more g.entries i) ((ap names_in (drop-append-le g.forgiven g.entries (e ∷ []) f) ∙ more (drop g.forgiven g.entries)) i)

-- an entry with a name
names_pushed_at : (g : Gate) (p : Option ℕ) (qs : List Request) (n : Named) → g.forgiven ≤ length g.entries
    → names_of (entered g (entry_at p qs (n ∷ []) ∷ [])) ≡ pushed (names_of g) (once.named n)
names_pushed_at g p qs n f = names_more g p qs (n ∷ []) f ∙ names_by-push g (names_in g.entries) (names_in (drop g.forgiven g.entries)) n

pub names_pushed : (g : Gate) (qs : List Request) (n : Named) → g.forgiven ≤ length g.entries → names_of (entered g (entry_with qs (n ∷ []) ∷ [])) ≡ pushed (names_of g) (once.named n)
names_pushed g qs n f = names_pushed_at g None qs n f

-- and one without
names_stay_at : (g : Gate) (p : Option ℕ) (qs : List Request) → g.forgiven ≤ length g.entries → names_of (entered g (entry_at p qs [] ∷ [])) ≡ names_of g
names_stay_at g p qs f = names_more g p qs [] f ∙ (λ i. names_by g (append-nil (names_in g.entries) i) (append-nil (names_in (drop g.forgiven g.entries)) i))

pub names_stay : (g : Gate) (qs : List Request) → g.forgiven ≤ length g.entries → names_of (entered g (entry_with qs [] ∷ [])) ≡ names_of g
names_stay g qs f = names_stay_at g None qs f

-- ---- positions

pub position_of-push : (p : ℕ) (es : List Entry) (e : Entry) → position_of p (es ++ e ∷ []) ≡ unwrap_or e.position (position_of p es)
position_of-push p [] e = refl
position_of-push p (x ∷ xs) e = position_of-push (unwrap_or x.position p) xs e

-- a client's request is a step if it has a position
position_goes : (g : Gate) (p : Option ℕ) (qs : List Request) (ns : List Named) → position (entered g (entry_at p qs ns ∷ [])) ≡ unwrap_or p (position g)
position_goes g p qs ns = position_of-push g.head.position g.entries (entry_at p qs ns)

pub settled_stays : (g : Gate) (es : List Entry) → g.kept ≤ length g.entries → settled_at (entered g es) ≡ settled_at g
settled_stays g es h = ap (position_of g.head.position) (take-append-le g.kept g.entries es h)

pub forgiven_more : (g : Gate) (es : List Entry) → g.forgiven ≤ length g.entries → g.forgiven ≤ length (entered g es).entries
forgiven_more g es h = let l = length-append g.entries es in omega (arith, h, l)

-- ---- lines

abbrev lines_of : Entry → List Line
lines_of e = record_of (texts_of e)

pub pends_more : (kept : ℕ) (es fs : List Entry) (old new : List Line) → IsPending kept es old → new ≡ old ++ journal_of fs → IsPending kept (es ++ fs) new
pends_more kept es fs old new p h = record {
  within = let l = length-append es fs in let w = p.within in omega (arith, l, w);
  lines = h ∙ (ap (λ z. z ++ journal_of fs) p.lines ∙ (sym (flat_map-append lines_of (drop kept es) fs) ∙ ap journal_of (sym (drop-append-le kept es fs p.within))));
}

-- ---- the shape

pub shape_text-append : (es fs : List Entry) → shape_text (es ++ fs) ≡ shape_text es ++ shape_text fs
shape_text-append es fs = ap (flat_map told_text) (shape_of-append es fs) ∙ flat_map-append told_text (shape_of es) (shape_of fs)

pub one_shape : (q : Request) → is_shape q.act ≡ true → told_text (made q.role q.line) ≡ shape_in q
one_shape q h = sym (append-nil (told_text (made q.role q.line))) ∙ ap (λ b. flat_map told_text (map (λ (x : Request). made x.role x.line) (cond b (q ∷ []) [])))
    (sym h)

pub no_shape : (q : Request) → is_shape q.act ≡ false → shape_in q ≡ []
no_shape q h = ap (λ b. flat_map told_text (map (λ (x : Request). made x.role x.line) (cond b (q ∷ []) []))) h

pub shape_text-added : (es fs : List Entry) (old new text : List ℕ) → old ≡ shape_text es → text ≡ shape_text fs → new ≡ old ++ text
    → new ≡ shape_text (es ++ fs)
shape_text-added es fs old new text o t n = n ∙ ((λ i. o i ++ t i) ∙ sym (shape_text-append es fs))

-- whatever the position
pub shape_text-entries_at : (p : Option ℕ) (q : Request) (by : Option Ask) (r : Reply) → shape_text (entries_of None q by r) ≡ shape_text (entries_of p q by r)
shape_text-entries_at p q by r = at (is_shared q.act && (is_accepted r || is_some by))
  where
    at : (t : Bool) → shape_text (cond t (entry_at None (cond (is_accepted r) (q ∷ []) []) (answering by r) ∷ []) [])
        ≡ shape_text (cond t (entry_at p (cond (is_accepted r) (q ∷ []) []) (answering by r) ∷ []) [])
    at true = refl
    at false = refl

-- ---- what a request adds

-- the lines of one entry
one_record : (ts : List (List ℕ)) (p : Option ℕ) → record_of (ts ++ text_at p) ≡ record_of (ts ++ text_at p) ++ []
one_record ts p = sym (append-nil (record_of (ts ++ text_at p)))

-- what of the code's values hangs on the entries
pub record AreKept (g : Gate) (known : Names) (at done : ℕ) (lines : List Line) (text : List ℕ) : Type 0 where
  pub names : known ≡ names_of g
  pub position : at ≡ position g
  pub settled : done ≡ settled_at g
  pub forgiven : g.forgiven ≤ length g.entries
  pub pending : IsPending g.kept g.entries lines
  pub shape : text ≡ shape_text g.entries

one_kept : (g : Gate) (p : Option ℕ) (qs : List Request) (ns : List Named) (x : Gateway) (names : Names) (at : ℕ) (lines : List Line) (shape : List ℕ) → IsAlive g x
    → names ≡ names_of (entered g (entry_at p qs ns ∷ [])) → at ≡ unwrap_or p x.position → lines ≡ x.pending.items ++ journal_of (entry_at p qs ns ∷ [])
    → shape ≡ shape_text (g.entries ++ entry_at p qs ns ∷ [])
    → AreKept (entered g (entry_at p qs ns ∷ [])) names at x.settled lines shape
one_kept g p qs ns x names at lines shape b n t l s = record {
  names = n;
  position = t ∙ (ap (unwrap_or p) b.position ∙ sym (position_goes g p qs ns));
  settled = b.settled ∙ sym (settled_stays g (entry_at p qs ns ∷ []) b.pending.within);
  forgiven = forgiven_more g (entry_at p qs ns ∷ []) b.forgiven;
  pending = pends_more g.kept g.entries (entry_at p qs ns ∷ []) x.pending.items lines b.pending l;
  shape = s;
}

none_kept : (g : Gate) (x : Gateway) (names : Names) (at : ℕ) (lines : List Line) (shape : List ℕ) → IsAlive g x → names ≡ names_in_code x.names
    → at ≡ x.position → lines ≡ x.pending.items ++ [] → shape ≡ shape_text (g.entries ++ []) → AreKept (entered g []) names at x.settled lines shape
none_kept g x names at lines shape b n t l s = subst (λ es. AreKept (record g { entries = es }) names at x.settled lines shape) (sym (append-nil g.entries))
    (record {
      names = n ∙ b.names;
      position = t ∙ b.position;
      settled = b.settled;
      forgiven = b.forgiven;
      pending = record { within = b.pending.within; lines = l ∙ (append-nil x.pending.items ∙ b.pending.lines) };
      shape = s ∙ ap shape_text (append-nil g.entries);
    })

-- the entry of a request, by whether it is accepted
abbrev entries_by : Option ℕ → Bool → Request → Option Ask → Reply → List Entry
entries_by p accepted q by r = cond (accepted || is_some by) (record { requests = cond accepted (q ∷ []) []; names = answering by r; position = p } ∷ []) []

entries_are : (p : Option ℕ) (accepted : Bool) (q : Request) (by : Option Ask) (r : Reply) → is_shared q.act ≡ true → accepted ≡ is_accepted r
    → entries_by p accepted q by r ≡ entries_of p q by r
entries_are p accepted q by r h e = λ i. cond (sym h i && (e i || is_some by)) (record { requests = cond (e i) (q ∷ []) []; names = answering by r; position = p } ∷ []) []

-- a name as the code has it, with the answer
abbrev pub named_by : Option Ask → Reply → Option Named
named_by by r = option_map (λ a. record { ask = a; refused = not (is_accepted r); answer = answer_text r }) by

abbrev names_with : Names → Option Named → Names
names_with n name = if_some name n (λ e. pushed n (once.named e))

-- where the log stands after it
abbrev pub stands_at : Bool → Option ℕ → ℕ → ℕ
stands_at is p was = cond is (unwrap_or p was) was

kept_by : (accepted : Bool) (g : Gate) (p : Option ℕ) (a : Asking) (act : Act) (by : Option Ask) (r : Reply) (x : Gateway) (names : Names) (at : ℕ) (lines : List Line) (shape : List ℕ)
    → IsAlive g x → names ≡ names_with (names_in_code x.names) (named_by by r) → at ≡ stands_at (accepted || is_some (named_by by r)) p x.position
    → lines ≡ x.pending.items ++ lines_entered a accepted (named_by by r) p
    → shape ≡ shape_text (g.entries ++ entries_by p accepted (request_of a act) by r)
    → AreKept (entered g (entries_by p accepted (request_of a act) by r)) names at x.settled lines shape
kept_by true g p a act None r x names at lines shape b n t l s =
    one_kept g p (request_of a act ∷ []) [] x names at lines shape b (n ∙ (b.names ∙ sym (names_stay_at g p (request_of a act ∷ []) b.forgiven))) t (l ∙ ap (λ z. x.pending.items ++ z) (one_record (text_of_request a.role a.line ∷ []) p)) s
kept_by true g p a act (Some ask) r x names at lines shape b n t l s =
    let e : Named = record { ask = ask; refused = not (is_accepted r); answer = answer_text r } in
    one_kept g p (request_of a act ∷ []) (e ∷ []) x names at lines shape b (n ∙ (ap (λ z. pushed z (once.named e)) b.names ∙ sym (names_pushed_at g p (request_of a act ∷ []) e b.forgiven))) t (l ∙ ap (λ z. x.pending.items ++ z) (one_record (text_of_request a.role a.line ∷ name_text e ∷ []) p)) s
kept_by false g p a act None r x names at lines shape b n t l s = none_kept g x names at lines shape b n t l s
kept_by false g p a act (Some ask) r x names at lines shape b n t l s =
    let e : Named = record { ask = ask; refused = not (is_accepted r); answer = answer_text r } in
    one_kept g p [] (e ∷ []) x names at lines shape b (n ∙ (ap (λ z. pushed z (once.named e)) b.names ∙ sym (names_pushed_at g p [] e b.forgiven))) t (l ∙ ap (λ z. x.pending.items ++ z) (one_record (name_text e ∷ []) p)) s

-- behind its entry
pub AreKept-entered : (g : Gate) (p : Option ℕ) (a : Asking) (act : Act) (by : Option Ask) (r : Reply) (accepted : Bool) (name : Option Named) (x : Gateway) (names : Names) (at : ℕ) (lines : List Line)
    → (old text shape : List ℕ) → IsAlive g x → is_shared act ≡ true → accepted ≡ is_accepted r → name ≡ named_by by r
    → names ≡ names_with (names_in_code x.names) name → at ≡ stands_at (accepted || is_some name) p x.position → lines ≡ x.pending.items ++ lines_entered a accepted name p
    → old ≡ shape_text g.entries → text ≡ shape_text (entries_of None (request_of a act) by r) → shape ≡ old ++ text
    → AreKept (entered g (entries_of p (request_of a act) by r)) names at x.settled lines shape
AreKept-entered g p a act by r accepted name x names at lines old text shape b h t e n w l o m s =
    let are = entries_are p accepted (request_of a act) by r h t in
    subst (λ es. AreKept (entered g es) names at x.settled lines shape) are
    (kept_by accepted g p a act by r x names at lines shape b (n ∙ ap (names_with (names_in_code x.names)) e)
    (w ∙ ap (λ z. stands_at (accepted || is_some z) p x.position) e)
    (l ∙ ap (λ z. x.pending.items ++ lines_entered a accepted z p) e)
    (shape_text-added g.entries (entries_of p (request_of a act) by r) old shape text o (m ∙ shape_text-entries_at p (request_of a act) by r) s ∙ ap (λ es. shape_text (g.entries ++ es)) (sym are)))

-- what the entry makes of the shape
made_by : (accepted : Bool) (q : Request) (by : Option Ask) (r : Reply) → shape_text (entries_by None accepted q by r) ≡ cond accepted (shape_in q) []
made_by true q by r = refl
made_by false q None r = refl
made_by false q (Some a) r = refl

pub shape_text-entries_of : (q : Request) (by : Option Ask) (r : Reply) (accepted : Bool) → is_shared q.act ≡ true → accepted ≡ is_accepted r
    → cond accepted (shape_in q) [] ≡ shape_text (entries_of None q by r)
shape_text-entries_of q by r accepted h a = sym (made_by accepted q by r) ∙ ap shape_text (entries_are None accepted q by r h a)

-- What was prepared for the circuits at some places, as what was prepared for each reader.
use Rattle.std.proofs.Common.{◌≡◌, ◌≢◌, ℕ, zero, suc, ◌+◌, ◌<◌, ◌≤◌, Bool, true, false, ltb, ltb-true, ltb-false, cond, ◌||◌, ◌&&◌, List, [], ◌∷◌, ◌++◌, drop, length, map, get_or, take, Option, None, Some, IfSome, refl, sym, ap, subst, ◌∙◌, append-nil, arith}
use Rattle.std.proofs.lemmas.Bool.Decides.{nat_tests}
use Rattle.std.proofs.lemmas.List.{drop_all, map-append, take_more}
use Rattle.std.proofs.lemmas.List.Elements.{filter-append}
use Rattle.std.proofs.lemmas.List.Quantifiers.{position-Some}
use Rattle.std.specs.Prelude.{◌==◌, filter, flat_map, is_some, not, option_map, position, unwrap_or}
use Rattle.std.specs.List.{AllByRecursion, list_all, list_any}
use Rattle.std.specs.List.Sorted.{IsNonDecreasingBy, IsPartitionPoint}
use Rattle.std.specs.Global.{Global, Vec}
use Rattle.std.specs.declared.rc.Rc.{Rc}
use Rattle.iv_zset.specs.Weights.{IsZSet, Weighed, weight_of}
use Rattle.iv_zset.proofs.Support.{rows_in-SameZ, rows_in-IsZSet}
use Rattle.iv_circuit.specs.Changing.{Given, has_rows, is_touched}
use Rattle.iv_circuit.specs.Circuits.{Running}
use Rattle.iv_circuit.specs.Nodes.{Scanned, scans_of}
use Rattle.iv_circuit.specs.declared.node.Change as circuit
use Rattle.iv_database.specs.Changes.{Change, change_at}
use Rattle.iv_readers.specs.Each.{Each, HaveBecome}
use Rattle.iv_machine.specs.Machine.{lines_told as machine_line}
use Rattle.iv_rows.specs.Options.{if_some}
use Rattle.iv_machine.specs.State.{Session, Subscription, actor, is_open, session_of}
use Rattle.iv_store.specs.Found.{beside}
use Rattle.iv_store.specs.Store.{IsOpen, Store, frame_of, place_of}
use Rattle.iv_readers.specs.Readers.{RoleCircuit, is_for}
use Rattle.iv_readers.specs.Changes.{HasTaken, IsMadeOf, TookChange, has_no_rows, places_in, prepared_for, rows_at, spread}
use Rattle.iv_store.specs.Moved.{line_by}
use Rattle.iv_readers.specs.Rows.{shared_rows}
use Rattle.iv_store.specs.Taken.{AreChangesGiven, ArePreparedFor}
use Rattle.iv_store.specs.Touching.{AreFoundAmong, AreMade, AreMadeAt, IsFoundAmong, IsMadeAt, at_for, line_at, place_among, as_reader, readers_of}
use Rattle.iv_readers.specs.Touching.{ArePlaces, AreRisingFrom, IsPlace, numbers_of, touches}
use Rattle.iv_readers.specs.declared.changes.Prepared.{Prepared}
use Rattle.iv_readers.specs.declared.ids.CircuitId.{CircuitId}
use Rattle.iv_store.specs.declared.touching.Reader.{Reader}
use Rattle.iv_store.specs.declared.touching.Touched.{Touched}
use Rattle.iv_database.proofs.FrameTests.{and-true_both}
use Rattle.iv_store.proofs.ReadersFound.{or_false}
use Rattle.iv_readers.proofs.Held.{same_number}
use Rattle.iv_readers.proofs.Lists.{AllByRecursion-map, AllByRecursion-zip, is_self, eq-above, eq-below}
use Rattle.iv_store.proofs.Unread.{place_found}

-- what stands at an index, whatever is read behind the end
pub get_or-own_default : {X : Type 0} (xs : List X) (j : ℕ) (d : X) → j < length xs → get_or xs j d ≡ get_or xs j (get_or xs j d)
get_or-own_default [] j d l = absurd (omega (arith, l))
get_or-own_default (x ∷ xs) zero d l = refl
get_or-own_default (x ∷ xs) (suc j) d l = get_or-own_default xs j d (omega (arith, l))

-- ---- circuits that are not touched

module _ (given : Given) (ts : List ℕ) (others : (t : ℕ) → list_any (λ s. t == s) ts ≡ false → given t ≡ []) where
  -- a table that is scanned is none of these
  scanned_not : (t : ℕ) (xs : List ℕ) (ss : List Scanned) → list_any (λ s. s.table == t) ss ≡ true → list_any (λ x. list_any (λ s. s.table == x) ss) xs ≡ false → list_any (λ s. t == s) xs ≡ false
  scanned_not t [] ss here none = refl
  scanned_not t (x ∷ xs) ss here none = by (t == x) (list_any (λ s. s.table == x) ss) refl refl none (scanned_not t xs ss here)
    where
      clash : true ≡ false → ⊥
      clash q = cc

      by : (b c : Bool) → (t == x) ≡ b → list_any (λ s. s.table == x) ss ≡ c → (c || list_any (λ y. list_any (λ s. s.table == y) ss) xs) ≡ false
          → (list_any (λ y. list_any (λ s. s.table == y) ss) xs ≡ false → list_any (λ s. t == s) xs ≡ false) → (b || list_any (λ s. t == s) xs) ≡ false
      by true true e f h go = cc
      by true false e f h go = absurd (clash (sym here ∙ ap (λ y. list_any (λ (s : Scanned). s.table == y) ss) (same_number t x e) ∙ f))
      by false true e f h go = cc
      by false false e f h go = go h

  quiet_among : (ss all : List Scanned) → ((t : ℕ) → list_any (λ s. s.table == t) ss ≡ true → list_any (λ s. s.table == t) all ≡ true)
      → list_any (λ t. list_any (λ s. s.table == t) all) ts ≡ false → list_any (λ s. has_rows (given s.table)) ss ≡ false
  quiet_among [] all in_all none = refl
  quiet_among (s ∷ ss) all in_all none =
      let empty = others s.table (scanned_not s.table ts all (in_all s.table (ap (λ b. b || list_any (λ (r : Scanned). r.table == s.table) ss) (is_self s.table))) none) in
      (λ i. has_rows (empty i) || list_any (λ r. has_rows (given r.table)) ss)
      ∙ quiet_among ss all (λ t h. in_all t (later (s.table == t) (list_any (λ r. r.table == t) ss) h)) none
    where
      later : (b c : Bool) → c ≡ true → (b || c) ≡ true
      later true c h = refl
      later false c h = h

  untouched : (c : Running) → touches ts c ≡ false → is_touched c.node given ≡ false
  untouched c none = quiet_among (scans_of c.node) (scans_of c.node) (λ t h. h) none

  -- what was made for its place was made for the circuit, and for another place nothing is to be made
  module _ (c : Running) (at : ℕ) where
    abbrev IsMadeFor : ℕ → Prepared → Type 0
    IsMadeFor i p = (p.at.0 ≡ i) × (at ≡ i → IsMadeOf given c p)

    made_for : (is : List ℕ) (ps : List Prepared) → Each IsMadeFor is ps → list_any (λ i. i == at) is ≡ touches ts c → IsMadeOf given c (prepared_for at ps)
    made_for [] [] h any = record { readied = untouched c (sym any); rows = refl }
    made_for [] (p ∷ ps) h any = absurd h
    made_for (i ∷ is) [] h any = absurd h
    made_for (i ∷ is) (p ∷ ps) h any = by (p.at.0 == at) refl (made_for is ps h.1)
      where
        same : (p.at.0 == at) ≡ (i == at)
        same = ap (λ m. m == at) h.0.0

        by : (b : Bool) → (p.at.0 == at) ≡ b → (list_any (λ j. j == at) is ≡ touches ts c → IsMadeOf given c (prepared_for at ps)) → IsMadeOf given c (cond b p (prepared_for at ps))
        by true e go = h.0.1 (sym (same_number i at (sym same ∙ e)))
        by false e go = go (ap (λ b. b || list_any (λ j. j == at) is) (sym (sym same ∙ e)) ∙ any)

-- the tables that do not change are given nothing
pub change_at-not_changed : (t : ℕ) (cs : List Change) → list_any (λ s. t == s) (map (λ c. c.rel) cs) ≡ false → change_at cs t ≡ []
change_at-not_changed t [] h = refl
change_at-not_changed t (c ∷ cs) h = by (t == c.rel) refl h (change_at-not_changed t cs)
  where
    swap : (m n : ℕ) → (m == n) ≡ (n == m)
    swap m n = grind (arith, nat_tests)

    by : (b : Bool) → (t == c.rel) ≡ b → (b || list_any (λ s. t == s) (map (λ c. c.rel) cs)) ≡ false → (list_any (λ s. t == s) (map (λ c. c.rel) cs) ≡ false → change_at cs t ≡ [])
        → cond (c.rel == t) c.rows (change_at cs t) ≡ []
    by true e k go = cc
    by false e k go = ap (λ b. cond b c.rows (change_at cs t)) (swap c.rel t ∙ e) ∙ go k

pub given_none : (given : Given) (changes : List Change) → AreChangesGiven given changes → (t : ℕ) → list_any (λ s. t == s) (map (λ c. c.rel) changes) ≡ false → given t ≡ []
given_none given changes is t none = empty (given t) (sym (rows_in-IsZSet (given t) (is.zsets t)) ∙ rows_in-SameZ (given t) [] (λ q. is.same t q ∙ ap (λ (es : Weighed). weight_of es q) (change_at-not_changed t changes none)))
  where
    empty : (es : Weighed) → length es ≡ 0 → es ≡ []
    empty [] h = refl
    empty (e ∷ es) h = absurd (omega (arith, h))

-- what holds of each circuit and what was prepared for its place
pub each_spread : (P : RoleCircuit → Prepared → Type 0) (ps : List Prepared) (ks : List RoleCircuit) → AllByRecursion (λ k. P k (prepared_for k.at ps)) ks → Each P ks (spread ks ps)
each_spread P ps [] a = tt
each_spread P ps (k ∷ ks) a = (a.0, each_spread P ps ks a.1)

all_free : (ks : List RoleCircuit) → AllByRecursion (λ k. Unit {0}) ks
all_free [] = tt
all_free (k ∷ ks) = (tt, all_free ks)

-- what was made at each place, for each reader
by_reader : (e : Store) (given : Given) (is : List ℕ) (ps : List Prepared) → Each (IsMadeAt e given) is ps
    → AllByRecursion (λ k. Each (λ i p. (p.at.0 ≡ i) × (k.at ≡ i → IsMadeOf given k.circuit p)) is ps) e.circuits
by_reader e given [] [] h = all_free e.circuits
by_reader e given [] (p ∷ ps) h = absurd h
by_reader e given (i ∷ is) [] h = absurd h
by_reader e given (i ∷ is) (p ∷ ps) h =
    AllByRecursion-zip (λ k. k.at ≡ i → IsMadeOf given k.circuit p) (λ k. Each (λ j q. (q.at.0 ≡ j) × (k.at ≡ j → IsMadeOf given k.circuit q)) is ps)
    (λ k. Each (λ j q. (q.at.0 ≡ j) × (k.at ≡ j → IsMadeOf given k.circuit q)) (i ∷ is) (p ∷ ps)) e.circuits
    (λ k m r. ((h.0.place, m), r)) h.0.made (by_reader e given is ps h.1)

pub places_in-Each : (e : Store) (given : Given) (is : List ℕ) (ps : List Prepared) → Each (IsMadeAt e given) is ps → places_in ps ≡ is
places_in-Each e given [] [] h = refl
places_in-Each e given [] (p ∷ ps) h = absurd h
places_in-Each e given (i ∷ is) [] h = absurd h
places_in-Each e given (i ∷ is) (p ∷ ps) h = λ j. h.0.place j ∷ places_in-Each e given is ps h.1 j

pub places_in-AreMadeAt : (e : Store) (given : Given) (is : List ℕ) (all : Option (Vec Prepared)) → AreMadeAt e given is all → IfSome all (λ ps. places_in ps.items ≡ is)
places_in-AreMadeAt e given is None made = tt
places_in-AreMadeAt e given is (Some ps) made = places_in-Each e given is ps.items made

-- what was made at the places of the circuits that scan one of the tables, where nothing is given for others
pub AreMade-Each : (e : Store) (given : Given) (tables : List ℕ) → ((t : ℕ) → list_any (λ s. t == s) tables ≡ false → given t ≡ []) → (places : List ℕ) → ArePlaces tables e.circuits places
    → (ps : List Prepared) → Each (IsMadeAt e given) places ps → AreMade e given ps
AreMade-Each e given tables others places at ps made =
    let same : places_in ps ≡ places = places_in-Each e given places ps made in
    record {
      rise = subst (AreRisingFrom 0) (sym same) at.rise;
      read = subst (AllByRecursion (IsPlace e.circuits)) (sym same) at.read;
      made = each_spread (λ k p. IsMadeOf given k.circuit p) ps e.circuits
          (AllByRecursion-zip (λ k. Each (λ i p. (p.at.0 ≡ i) × (k.at ≡ i → IsMadeOf given k.circuit p)) places ps) (λ k. list_any (λ i. i == k.at) places ≡ touches tables k.circuit)
          (λ k. IsMadeOf given k.circuit (prepared_for k.at ps)) e.circuits
          (λ k m any. made_for given tables others k.circuit k.at places ps m any) (by_reader e given places ps made) at.each);
    }

module _ (e : Store) (changes : List Change) (given : Given) (is : AreChangesGiven given changes) (places : List ℕ) (at : ArePlaces (map (λ c. c.rel) changes) e.circuits places) where
  pub prepared_all : (all : Option (Vec Prepared)) → AreMadeAt e given places all → ArePreparedFor e changes all
  prepared_all None made = (given, is, made)
  prepared_all (Some ps) made = (given, is, AreMade-Each e given (map (λ c. c.rel) changes) (given_none given changes is) places at ps.items made)

-- where no circuit scans one of the tables, nothing is prepared
pub ArePreparedFor-none : (e : Store) (changes : List Change) (places : List ℕ) (ps : Vec Prepared) → ps.items ≡ [] → places ≡ [] → ((t : ℕ) → IsZSet (change_at changes t))
    → ArePlaces (map (λ c. c.rel) changes) e.circuits places → ArePreparedFor e changes (Some ps)
ArePreparedFor-none e changes places ps none no_places zsets at =
    let given : Given = change_at changes in
    prepared_all e changes given (record { zsets = zsets; same = λ t q. refl }) places at (Some ps)
    (subst (λ is. Each (IsMadeAt e given) is ps.items) (sym no_places) (subst (Each (IsMadeAt e given) []) (sym none) tt))

-- ---- at a place

pub IsMadeAt-IsMadeOf : (e : Store) (given : Given) (i : ℕ) (p : Prepared) (c : Running) → p.at.0 ≡ i → IsMadeOf given c p → AllByRecursion (λ k. k.at ≡ i → c ≡ k.circuit) e.circuits → IsMadeAt e given i p
IsMadeAt-IsMadeOf e given i p c place made same = record {
  place = place;
  made = AllByRecursion-map (λ k. k.at ≡ i → c ≡ k.circuit) (λ k. k.at ≡ i → IsMadeOf given k.circuit p) e.circuits (λ k is here. subst (λ x. IsMadeOf given x p) (is here) made) same;
}

-- ---- a place among those that rise

module _ {X : Type 0} (key : X → ℕ) where
  at_least : (m : ℕ) (xs : List X) → AreRisingFrom m (map key xs) → (j : ℕ) (d : X) → j < length xs → m ≤ key (get_or xs j d)
  at_least m [] r j d l = absurd (omega (arith, l))
  at_least m (x ∷ xs) r zero d l = r.0
  at_least m (x ∷ xs) r (suc j) d l =
      let above = at_least (suc (key x)) xs r.1 j d (omega (arith, l)) in
      let low = r.0 in
      omega (arith, above, low)

  pub IsNonDecreasingBy-AreRisingFrom : (m : ℕ) (xs : List X) → AreRisingFrom m (map key xs) → IsNonDecreasingBy key xs
  IsNonDecreasingBy-AreRisingFrom m [] r i j d le lt = absurd (omega (arith, lt))
  IsNonDecreasingBy-AreRisingFrom m (x ∷ xs) r zero zero d le lt = omega arith
  IsNonDecreasingBy-AreRisingFrom m (x ∷ xs) r zero (suc j) d le lt = let above = at_least (suc (key x)) xs r.1 j d (omega (arith, lt)) in omega (arith, above)
  IsNonDecreasingBy-AreRisingFrom m (x ∷ xs) r (suc i) zero d le lt = absurd (omega (arith, le))
  IsNonDecreasingBy-AreRisingFrom m (x ∷ xs) r (suc i) (suc j) d le lt =
      IsNonDecreasingBy-AreRisingFrom (suc (key x)) xs r.1 i j d (omega (arith, le)) (omega (arith, lt))

  module _ (place : ℕ) where
    abbrev is_in : List X → Bool
    is_in xs = list_any (λ n. n == place) (map key xs)

    in_none : (m : ℕ) (xs : List X) → place < m → AreRisingFrom m (map key xs) → is_in xs ≡ false
    in_none m [] low r = refl
    in_none m (x ∷ xs) low r =
        let above = r.0 in
        let here = eq-above (key x) place (omega (arith, low, above)) in
        let rest = in_none (suc (key x)) xs (omega (arith, low, above)) r.1 in
        λ j. here j || rest j

    in_past : (m : ℕ) (xs : List X) (i : ℕ) (x : X) → AreRisingFrom m (map key xs) → i < length xs → x ≡ get_or xs i x → place ≤ key x → is_in (drop i xs) ≡ (key x == place)
    in_past m [] i x r low at above = absurd (omega (arith, low))
    in_past m (y ∷ xs) zero x r low at above =
        let rest = in_none (suc (key y)) xs (let same = ap key at in omega (arith, same, above)) r.1 in
        (λ j. (key (sym at j) == place) || rest j) ∙ or_false (key x == place)
    in_past m (y ∷ xs) (suc i) x r low at above = in_past (suc (key y)) xs i x r.1 (omega (arith, low)) at above

    in_skip : (xs : List X) (i : ℕ) → ((k : ℕ) (d : X) → 0 ≤ k → k < i → ltb (key (get_or xs k d)) place ≡ true) → is_in xs ≡ is_in (drop i xs)
    in_skip [] zero less = refl
    in_skip [] (suc i) less = refl
    in_skip (x ∷ xs) zero less = refl
    in_skip (x ∷ xs) (suc i) less =
        ap (λ b. b || is_in xs) (eq-below place (key x) (ltb-true (key x) place (less 0 x (omega arith) (omega arith))))
        ∙ in_skip xs i (λ k d low high. less (suc k) d (omega arith) (omega (arith, high)))

    -- by the point from which on none is below it
    module _ (xs : List X) (rise : AreRisingFrom 0 (map key xs)) (i : ℕ) (point : IsPartitionPoint (λ (x : X). ltb (key x) place ≡ true) (λ x. ltb (key x) place ≡ false) xs i) where
      pub in_at_point : (x : X) → i < length xs → x ≡ get_or xs i x → is_in xs ≡ (key x == place)
      in_at_point x low at =
          let here : ltb (key x) place ≡ false = ap (λ (y : X). ltb (key y) place) at ∙ point.1 i x (omega arith) low in
          in_skip xs i point.0 ∙ in_past 0 xs i x rise low at (ltb-false (key x) place here)

      pub in_over_point : length xs ≤ i → is_in xs ≡ false
      in_over_point out = in_skip xs i point.0 ∙ ap is_in (drop_all i xs out)

-- ---- the rows at a place, one after another

pub rows_found : (place : ℕ) (ps : List Prepared) (i : ℕ) (p : Prepared) → i < length ps → p ≡ get_or ps i p → p.at.0 ≡ place → rows_at place (drop i ps) ≡ shared_rows p.rows
rows_found place [] i p low at is = absurd (omega (arith, low))
rows_found place (q ∷ ps) zero p low at is =
    let own : (q.at.0 == place) ≡ true = ap (λ (x : Prepared). x.at.0 == place) (sym at) ∙ ap (λ m. m == place) is ∙ is_self place in
    ap (λ b. cond b (shared_rows q.rows) (rows_at place ps)) own ∙ ap (λ (x : Prepared). shared_rows x.rows) (sym at)
rows_found place (q ∷ ps) (suc i) p low at is = rows_found place ps i p (omega (arith, low)) at is

rows_skip : (place : ℕ) (ps : List Prepared) (i : ℕ) → ((k : ℕ) (d : Prepared) → 0 ≤ k → k < i → ltb (get_or ps k d).at.0 place ≡ true) → rows_at place ps ≡ rows_at place (drop i ps)
rows_skip place [] zero less = refl
rows_skip place [] (suc i) less = refl
rows_skip place (q ∷ ps) zero less = refl
rows_skip place (q ∷ ps) (suc i) less =
    ap (λ b. cond b (shared_rows q.rows) (rows_at place ps)) (eq-below place q.at.0 (ltb-true q.at.0 place (less 0 q (omega arith) (omega arith))))
    ∙ rows_skip place ps i (λ k d low high. less (suc k) d (omega arith) (omega (arith, high)))

rows_absent : (place : ℕ) (ps : List Prepared) → list_any (λ n. n == place) (places_in ps) ≡ false → rows_at place ps ≡ []
rows_absent place [] h = refl
rows_absent place (p ∷ ps) h = by (p.at.0 == place) h (rows_absent place ps)
  where
    by : (c : Bool) → (c || list_any (λ n. n == place) (places_in ps)) ≡ false → (list_any (λ n. n == place) (places_in ps) ≡ false → rows_at place ps ≡ []) → cond c (shared_rows p.rows) (rows_at place ps) ≡ []
    by true x go = cc
    by false x go = go x

-- by the point from which on no place is below it
module _ (place : ℕ) (ps : List Prepared) (rise : AreRisingFrom 0 (places_in ps)) (i : ℕ)
    (point : IsPartitionPoint (λ (p : Prepared). ltb p.at.0 place ≡ true) (λ p. ltb p.at.0 place ≡ false) ps i) where
  pub rows_at_point : (p : Prepared) → i < length ps → p ≡ get_or ps i p → p.at.0 ≡ place → rows_at place ps ≡ shared_rows p.rows
  rows_at_point p low at is = rows_skip place ps i point.0 ∙ rows_found place ps i p low at is

  pub rows_over_point : length ps ≤ i → rows_at place ps ≡ []
  rows_over_point out = rows_absent place ps (in_over_point (λ (p : Prepared). p.at.0) place ps rise i point out)

  pub rows_not_at_point : (p : Prepared) → i < length ps → p ≡ get_or ps i p → p.at.0 ≢ place → rows_at place ps ≡ []
  rows_not_at_point p low at not_it = rows_absent place ps (in_at_point (λ (p : Prepared). p.at.0) place ps rise i point p low at ∙ other p.at.0 place not_it)
    where
      other : (m n : ℕ) → m ≢ n → (m == n) ≡ false
      other m n apart = grind (arith, nat_tests)

-- ---- the circuit that a role reads of a relation

of_some : (i j : ℕ) → Some i ≡ Some j → i ≡ j
of_some i j h = cc

module _ (role rel : ℕ) where
  -- its place, where it is there
  at_there : (ks : List RoleCircuit) → list_any (is_for role rel) ks ≡ true → (i : ℕ) × (at_for role rel ks ≡ Some i)
  at_there [] h = cc
  at_there (k ∷ ks) h = by (is_for role rel k) h (at_there ks)
    where
      by : (b : Bool) → (b || list_any (is_for role rel) ks) ≡ true → (list_any (is_for role rel) ks ≡ true → (i : ℕ) × (at_for role rel ks ≡ Some i))
          → (i : ℕ) × (cond b (Some k.at) (at_for role rel ks) ≡ Some i)
      by true t go = (k.at, refl)
      by false t go = go t

  at_index : (ks : List RoleCircuit) (i : ℕ) (k d : RoleCircuit) → i < length ks → is_for role rel (get_or ks i d) ≡ true → ((j : ℕ) → j < i → is_for role rel (get_or ks j d) ≡ false)
      → k ≡ get_or ks i k → at_for role rel ks ≡ Some k.at
  at_index [] i k d low t f here = absurd (omega arith)
  at_index (x ∷ ks) zero k d low t f here = ap (λ b. cond b (Some x.at) (at_for role rel ks)) t ∙ ap (λ (y : RoleCircuit). Some y.at) (sym here)
  at_index (x ∷ ks) (suc i) k d low t f here = ap (λ b. cond b (Some x.at) (at_for role rel ks)) (f 0 (omega arith)) ∙ at_index ks i k d (omega arith) t (λ j h. f (suc j) (omega (arith, h))) here

  -- that of the first that is for and-true_both
  pub at_place : (ks : List RoleCircuit) (i at : ℕ) → position (is_for role rel) ks ≡ Some i → ((k : RoleCircuit) → k ≡ get_or ks i k → at ≡ k.at) → at_for role rel ks ≡ Some at
  at_place [] i at h is = cc
  at_place (x ∷ ks) i at h is =
      let p = position-Some (is_for role rel) (x ∷ ks) i x h in
      let k = get_or (x ∷ ks) i x in
      let own : k ≡ get_or (x ∷ ks) i k = get_or-own_default (x ∷ ks) i x p.0 in
      at_index (x ∷ ks) i k x p.0 p.1 p.2 own ∙ ap (λ n. Some n) (sym (is k own))

-- the rows for a place are those of what was prepared for it
rows_for : (i : ℕ) (ps : List Prepared) → shared_rows (prepared_for i ps).rows ≡ rows_at i ps
rows_for i [] = refl
rows_for i (p ∷ ps) = by (p.at.0 == i) (rows_for i ps)
  where
    by : (b : Bool) → shared_rows (prepared_for i ps).rows ≡ rows_at i ps → shared_rows (cond b p (prepared_for i ps)).rows ≡ cond b (shared_rows p.rows) (rows_at i ps)
    by true h = refl
    by false h = h

beside_spread : (role rel : ℕ) (ps : List Prepared) (ks : List RoleCircuit) (i : ℕ) → at_for role rel ks ≡ Some i → beside [] role rel ks (map (λ p. shared_rows p.rows) (spread ks ps)) ≡ rows_at i ps
beside_spread role rel ps [] i h = cc
beside_spread role rel ps (k ∷ ks) i h = by (is_for role rel k) h (beside_spread role rel ps ks i)
  where
    rest : Weighed
    rest = beside [] role rel ks (map (λ p. shared_rows p.rows) (spread ks ps))

    by : (b : Bool) → cond b (Some k.at) (at_for role rel ks) ≡ Some i → (at_for role rel ks ≡ Some i → rest ≡ rows_at i ps) → cond b (shared_rows (prepared_for k.at ps).rows) rest ≡ rows_at i ps
    by true t go = rows_for k.at ps ∙ ap (λ j. rows_at j ps) (of_some k.at i t)
    by false t go = go t

-- the line of a subscription, from what was prepared for its circuit
placed_line : (e : Store) (ps : List Prepared) (s : Subscription) (i : ℕ) → at_for (actor (frame_of e) s.session) s.rel e.circuits ≡ Some i
    → machine_line None s (rows_at i ps) ≡ line_by e (spread e.circuits ps) s
placed_line e ps s i found = ap (machine_line None s) (sym (beside_spread (actor (frame_of e) s.session) s.rel ps e.circuits i found))

-- ---- circuits that have taken in their changes scan what they scanned

scans_stay : (c : Running) (o : Option circuit.Change) (new : Running) → HasTaken c o new → scans_of new.node ≡ scans_of c.node
scans_stay c None new t = ap (λ (x : Running). scans_of x.node) t
scans_stay c (Some d) new t = t.same.scans

touches_stay : (ts : List ℕ) (k : RoleCircuit) (p : Prepared) (m : RoleCircuit) → TookChange k p m → touches ts m.circuit ≡ touches ts k.circuit
touches_stay ts k p m t = ap (λ (ss : List Scanned). list_any (λ t. list_any (λ s. s.table == t) ss) ts) (scans_stay k.circuit p.pending m.circuit t.taken)

place_stays : (i : ℕ) (ks : List RoleCircuit) (ps : List Prepared) (ms : List RoleCircuit) → HaveBecome TookChange (length ps) ks ps ms → list_any (λ m. m.at == i) ms ≡ list_any (λ k. k.at == i) ks
place_stays i ks [] ms t = ap (list_any (λ k. k.at == i)) t
place_stays i [] (p ∷ ps) ms t = absurd t
place_stays i (k ∷ ks) (p ∷ ps) [] t = absurd t
place_stays i (k ∷ ks) (p ∷ ps) (m ∷ ms) t = let rest = place_stays i ks ps ms t.1 in λ j. (t.0.at j == i) || rest j

flags_stay : (ts is : List ℕ) (ks : List RoleCircuit) (ps : List Prepared) (ms : List RoleCircuit) → HaveBecome TookChange (length ps) ks ps ms
    → AllByRecursion (λ k. list_any (λ i. i == k.at) is ≡ touches ts k.circuit) ks → AllByRecursion (λ m. list_any (λ i. i == m.at) is ≡ touches ts m.circuit) ms
flags_stay ts is ks [] ms t a = subst (AllByRecursion (λ (k : RoleCircuit). list_any (λ i. i == k.at) is ≡ touches ts k.circuit)) (sym t) a
flags_stay ts is [] (p ∷ ps) ms t a = absurd t
flags_stay ts is (k ∷ ks) (p ∷ ps) [] t a = absurd t
flags_stay ts is (k ∷ ks) (p ∷ ps) (m ∷ ms) t a =
    (ap (λ j. list_any (λ i. i == j) is) t.0.at ∙ a.0 ∙ sym (touches_stay ts k p m t.0), flags_stay ts is ks ps ms t.1 a.1)

places_stay : (ts is : List ℕ) (ks : List RoleCircuit) (ps : List Prepared) (ms : List RoleCircuit) → HaveBecome TookChange (length ps) ks ps ms → ArePlaces ts ks is → ArePlaces ts ms is
places_stay ts is ks ps ms t a = record {
  rise = a.rise;
  each = flags_stay ts is ks ps ms t a.each;
  read = AllByRecursion-map (IsPlace ks) (IsPlace ms) is (λ i h. place_stays i ks ps ms t ∙ h) a.read;
}

at_stays : (role rel : ℕ) (ks : List RoleCircuit) (ps : List Prepared) (ms : List RoleCircuit) → HaveBecome TookChange (length ps) ks ps ms → at_for role rel ms ≡ at_for role rel ks
at_stays role rel ks [] ms t = ap (at_for role rel) t
at_stays role rel [] (p ∷ ps) ms t = absurd t
at_stays role rel (k ∷ ks) (p ∷ ps) [] t = absurd t
at_stays role rel (k ∷ ks) (p ∷ ps) (m ∷ ms) t =
    let rest = at_stays role rel ks ps ms t.1 in
    λ i. cond ((t.0.role i == role) && (t.0.rel i == rel)) (Some (t.0.at i)) (rest i)

module _ (ss : List Session) (ks : List RoleCircuit) (ps : List Prepared) (ms : List RoleCircuit) (t : HaveBecome TookChange (length ps) ks ps ms) where
  readers_stay : (os : List Subscription) → map (as_reader ss ms) os ≡ map (as_reader ss ks) os
  readers_stay [] = refl
  readers_stay (o ∷ os) =
      let rest = readers_stay os in
      let place = place (session_of ss o.session) in
      λ i. record { subscription = o; at = record { 0 = unwrap_or (place i) 0 } } ∷ rest i
    where
      place : (x : Option Session) → if_some x None (λ s. at_for s.role o.rel ms) ≡ if_some x None (λ s. at_for s.role o.rel ks)
      place None = refl
      place (Some s) = at_stays s.role o.rel ks ps ms t

  pub among_stays : (os : List Subscription) (x : Touched) → IsFoundAmong ss os ks x → IsFoundAmong ss os ms x
  among_stays os x a = record {
    circuits = places_stay x.tables.items (numbers_of x.circuits.items) ks ps ms t a.circuits;
    readers = a.readers ∙ ap (filter (λ r. list_any (λ i. i == r.at.0) (numbers_of x.circuits.items))) (sym (readers_stay os));
  }

  pub found_stay : (os : List Subscription) (xs : List (Rc Touched Global)) → AreFoundAmong ss os ks xs → AreFoundAmong ss os ms xs
  found_stay os [] a = tt
  found_stay os (x ∷ xs) a = (among_stays os x.value a.0, found_stay os xs a.1)

-- ---- the lines of those who read a touched circuit are the lines of all

no_rows : (o : Option (Rc Weighed Global)) → not (is_some o) ≡ true → shared_rows o ≡ []
no_rows None h = refl
no_rows (Some rows) h = cc

no_rows_at : (place : ℕ) (ps : List Prepared) → list_all has_no_rows ps ≡ true → rows_at place ps ≡ []
no_rows_at place [] h = refl
no_rows_at place (p ∷ ps) h =
    let b = and-true_both (has_no_rows p) (list_all has_no_rows ps) h in
    by (p.at.0 == place) (no_rows p.rows b.0) (no_rows_at place ps b.1)
  where
    by : (c : Bool) → shared_rows p.rows ≡ [] → rows_at place ps ≡ [] → cond c (shared_rows p.rows) (rows_at place ps) ≡ []
    by true x y = x
    by false x y = y

-- no reader has a line then
pub flat_map-has_no_rows : (ps : List Prepared) → list_all has_no_rows ps ≡ true → (rs : List Reader) → flat_map (line_at ps) rs ≡ []
flat_map-has_no_rows ps h [] = refl
flat_map-has_no_rows ps h (r ∷ rs) = λ i. machine_line None r.subscription (no_rows_at r.at.0 ps h i) ++ flat_map-has_no_rows ps h rs i

-- ---- one reader after another

pub as_reader-Some : (ss : List Session) (ks : List RoleCircuit) (o : Subscription) (at : CircuitId) → place_among ss ks o ≡ Some at.0 → as_reader ss ks o ≡ record { subscription = o; at = at }
as_reader-Some ss ks o at is = ap (λ x. record { subscription = o; at = record { 0 = unwrap_or x 0 } }) is

module _ (is : List ℕ) (ss : List Session) (ks : List RoleCircuit) (os : List Subscription) (i : ℕ) (o : Subscription) (low : i < length os) (at : o ≡ get_or os i o) (r : Reader) (own : as_reader ss ks o ≡ r) where
  abbrev so_far : List Reader
  so_far = readers_of is ss ks (take i os)

  more_readers : (b : Bool) → list_any (λ n. n == r.at.0) is ≡ b → readers_of is ss ks (take (i + 1) os) ≡ so_far ++ cond b (r ∷ []) []
  more_readers b h =
      ap (readers_of is ss ks) (take_more os i o low ∙ ap (λ x. take i os ++ x ∷ []) (sym at))
      ∙ ap (filter (λ x. list_any (λ n. n == x.at.0) is)) (map-append (as_reader ss ks) (take i os) (o ∷ []))
      ∙ filter-append (λ x. list_any (λ n. n == x.at.0) is) (map (as_reader ss ks) (take i os)) (as_reader ss ks o ∷ [])
      ∙ ap (λ x. so_far ++ cond (list_any (λ n. n == x.at.0) is) (x ∷ []) []) own ∙ ap (λ c. so_far ++ cond c (r ∷ []) []) h

  pub one_reader : (old : List Reader) → list_any (λ n. n == r.at.0) is ≡ true → old ≡ so_far → old ++ r ∷ [] ≡ readers_of is ss ks (take (i + 1) os)
  one_reader old h was = ap (λ rs. rs ++ r ∷ []) was ∙ sym (more_readers true h)

  pub no_reader : (old : List Reader) → list_any (λ n. n == r.at.0) is ≡ false → old ≡ so_far → old ≡ readers_of is ss ks (take (i + 1) os)
  no_reader old h was = was ∙ sym (more_readers false h ∙ append-nil so_far)

-- of an open session the place is that of the circuit that its role reads
pub place_among-is_open : (e : Store) (o : Subscription) → is_open (frame_of e) o.session ≡ true → place_among e.sessions e.circuits o ≡ at_for (actor (frame_of e) o.session) o.rel e.circuits
place_among-is_open e o shows = by (session_of e.sessions o.session) shows
  where
    by : (x : Option Session) → is_some x ≡ true
        → if_some x None (λ s. at_for s.role o.rel e.circuits) ≡ at_for (unwrap_or (option_map (λ s. s.role) x) (length e.known.rights.roles)) o.rel e.circuits
    by None h = cc
    by (Some s) h = refl

module _ (e : Store) (ps : List Prepared) (is : List ℕ) (places : places_in ps ≡ is) where
  abbrev whole : List Prepared
  whole = spread e.circuits ps

  pub reader_lines : (os : List Subscription) → AllByRecursion (IsOpen e) os → AllByRecursion (λ s. is_some (place_of e s) ≡ true) os
      → flat_map (line_at ps) (readers_of is e.sessions e.circuits os) ≡ flat_map (line_by e whole) os
  reader_lines [] shows there = refl
  reader_lines (o ∷ os) shows there = by (list_any (λ n. n == r.at.0) is) refl (reader_lines os shows.1 there.1)
    where
      role : ℕ
      role = actor (frame_of e) o.session

      r : Reader
      r = as_reader e.sessions e.circuits o

      rest : List Reader
      rest = readers_of is e.sessions e.circuits os

      some_place : (i : ℕ) × (at_for role o.rel e.circuits ≡ Some i)
      some_place = at_there role o.rel e.circuits (place_found (is_for role o.rel) e.circuits there.0)

      one : machine_line None o (rows_at r.at.0 ps) ≡ line_by e whole o
      one = ap (λ x. machine_line None o (rows_at (unwrap_or x 0) ps)) (place_among-is_open e o shows.0.session ∙ some_place.1) ∙ placed_line e ps o some_place.0 some_place.1

      by : (b : Bool) → list_any (λ n. n == r.at.0) is ≡ b → flat_map (line_at ps) rest ≡ flat_map (line_by e whole) os
          → flat_map (line_at ps) (cond b (r ∷ rest) rest) ≡ line_by e whole o ++ flat_map (line_by e whole) os
      by true q go = λ j. one j ++ go j
      by false q go =
          let none : line_by e whole o ≡ [] = sym one ∙ ap (machine_line None o) (rows_absent r.at.0 ps (ap (list_any (λ n. n == r.at.0)) places ∙ q)) in
          go ∙ (λ j. sym none j ++ flat_map (line_by e whole) os)

-- What writes change of tables, summed.
use Rattle.std.proofs.Common.{◌≡◌, ◌++◌, ◌||◌, ◌<◌, ◌≤◌, ◌+◌, ℕ, Bool, true, false, List, [], ◌∷◌, map, length, take, get_or, ℤ, pos, ◌+ℤ◌, ◌-◌, refl, sym, ap, subst, ◌∙◌, arith, append_assoc}
use Rattle.std.proofs.lemmas.List.{append-nil, map-append, take_more}
use Rattle.std.proofs.lemmas.Int.{ints}
use Rattle.std.proofs.lemmas.List.Folds.{list_any-append}
use Rattle.std.specs.Global.{Vec}
use Rattle.std.specs.Prelude.{◌==◌, ◌≤ℤ◌, OnOk, Result, Ok, Err}
use Rattle.std.specs.List.{list_any}
use Rattle.iv_zset.specs.Weights.{AllInRange, InRange, IsZSet, SameZ, Weighed, weight_of}
use Rattle.iv_zset.proofs.Places.{InRange-weight_of, weight_of-append}
use Rattle.iv_zset.proofs.Support.{rows_in-SameZ, rows_in-IsZSet}
use Rattle.iv_algebra.specs.Contents.{rows_of}
use Rattle.iv_algebra.specs.Plans.{Lists}
use Rattle.iv_circuit.specs.Changing.{Given}
use Rattle.iv_circuit.specs.Deltas.{change_in}
use Rattle.iv_access.specs.Rights.{Name}
use Rattle.iv_command.specs.Views.{act_of}
use Rattle.iv_command.specs.declared.answer.Answer.{Answer}
use Rattle.iv_command.specs.declared.command.Act.{Act}
use Rattle.iv_command.specs.declared.command.Act.TheVariants.{Begin, Finish, CreateRole, CreateTable, CreateView, Grant, Revoke, GrantRole, RevokeRole, RowSecurity, CreatePolicy, DropPolicy, Write, Subscribe, Unsubscribe}
use Rattle.iv_command.specs.declared.stop.Stop.{Stop}
use Rattle.iv_machine.specs.Act.{Entry, begin, finish, write}
use Rattle.iv_machine.specs.Changing.{after}
use Rattle.iv_machine.specs.Machine.{settled}
use Rattle.iv_machine.specs.State.{Frame, State}
use Rattle.iv_database.specs.Changes.{Change, change_at}
use Rattle.iv_database.specs.Database.{IsDatabase}
use Rattle.iv_database.specs.Resolving.{Passes}
use Rattle.iv_database.specs.Stands.{Stands}
use Rattle.iv_database.proofs.StoredFacts.{empty_zset}
use Rattle.iv_store.specs.Answering.{IsAccepted, IsStep, seen}
use Rattle.iv_store.specs.Engine.{IsBehind}
use Rattle.iv_store.specs.Store.{IsStored, Store, at, database_of}
use Rattle.iv_store.specs.Taken.{AreGivenMore}
use Rattle.iv_store.proofs.SubscriptionViews.{lists_behind, Stands-IsStored}
use Rattle.iv_store.proofs.PreparedForReaders.{change_at-not_changed}
use Rattle.iv_engine.proofs.WriteSteps.{write_left}
use Rattle.iv_engine.specs.Stepped.{is_write}
use Rattle.iv_engine.specs.Summed.{AreSumsOf, AreWritten}
use Rattle.iv_engine.specs.declared.sums.Sums.{Sums}

-- nothing yet
pub AreWritten-none : (e : Store) (given : Given) → ((t : ℕ) → given t ≡ []) → AreWritten e given [] e
AreWritten-none e given none = record {
  cap = refl;
  rights = refl;
  catalog = refl;
  zsets = λ t. subst IsZSet (sym (none t)) empty_zset;
  sums = λ t q. ap (λ (es : Weighed). weight_of (es ++ rows_of e.tables t) q) (sym (none t));
  others = λ t h. none t;
}

-- where rights, relations and rows stay
pub still_written : (before d n : Store) (given : Given) (tables : List ℕ) → AreWritten before given tables d → n.cap ≡ d.cap → n.known.rights ≡ d.known.rights → n.catalog ≡ d.catalog
    → ((t : ℕ) → SameZ (rows_of n.tables t) (rows_of d.tables t)) → AreWritten before given tables n
still_written before d n given tables w cap rights catalog same = record {
  cap = cap ∙ w.cap;
  rights = rights ∙ w.rights;
  catalog = catalog ∙ w.catalog;
  zsets = w.zsets;
  sums = λ t q. same t q ∙ w.sums t q;
  others = w.others;
}

-- all lists behind the one are behind the other
pub same_rows : (d n : Store) (T : Lists) → Stands T d.tables → Stands T n.tables → (t : ℕ) → SameZ (rows_of n.tables t) (rows_of d.tables t)
same_rows d n T a b t q = b t q ∙ sym (a t q)

-- ---- a write more

empty : (es : Weighed) → length es ≡ 0 → es ≡ []
empty [] h = refl
empty (e ∷ es) h = absurd (omega (arith, h))

neither : (b c : Bool) → (b || c) ≡ false → (b ≡ false) × (c ≡ false)
neither true c h = cc
neither false c h = (refl, h)

summed : (a b c d e m : ℤ) → a ≡ b +ℤ c → c ≡ d +ℤ e → m ≡ b +ℤ d → a ≡ m +ℤ e
summed a b c d e m x y z = omega (arith, ints)

module _ (before d : Store) (given : Given) (tables : List ℕ) (w : AreWritten before given tables d) (changes : List Change) where
  module _ (n : Store) (more : Given) (m : AreGivenMore given changes more) (cap : n.cap ≡ d.cap) (rights : n.known.rights ≡ d.known.rights) (catalog : n.catalog ≡ d.catalog)
      (rows : (t : ℕ) → SameZ (rows_of n.tables t) (change_at changes t ++ rows_of d.tables t)) where
    none_more : (t : ℕ) → list_any (λ s. t == s) tables ≡ false → list_any (λ s. t == s) (map (λ c. c.rel) changes) ≡ false → more t ≡ []
    none_more t a b = empty (more t) (sym (rows_in-IsZSet (more t) (m.zsets t)) ∙ rows_in-SameZ (more t) []
        (λ q. m.same t q ∙ (λ i. weight_of (change_at-not_changed t changes b i ++ w.others t a i) q)))

    pub more_written : AreWritten before more (tables ++ map (λ c. c.rel) changes) n
    more_written = record {
      cap = cap ∙ w.cap;
      rights = rights ∙ w.rights;
      catalog = catalog ∙ w.catalog;
      zsets = m.zsets;
      sums = λ t q. summed (weight_of (rows_of n.tables t) q) (weight_of (change_at changes t) q) (weight_of (rows_of d.tables t) q) (weight_of (given t) q) (weight_of (rows_of before.tables t) q) (weight_of (more t) q)
          (rows t q ∙ weight_of-append (change_at changes t) (rows_of d.tables t) q) (w.sums t q ∙ weight_of-append (given t) (rows_of before.tables t) q)
          (m.same t q ∙ weight_of-append (change_at changes t) (given t) q) ∙ sym (weight_of-append (more t) (rows_of before.tables t) q);
      others = λ t none.
          let b = neither (list_any (λ s. t == s) tables) (list_any (λ s. t == s) (map (λ c. c.rel) changes)) (sym (list_any-append (λ s. t == s) tables (map (λ c. c.rel) changes)) ∙ none) in
          none_more t b.0 b.1;
    }

  -- what is summed has room
  module _ (stored : IsDatabase (database_of before)) (k : ℕ) (es : List Entry) (p : Passes (database_of d) k es changes) (T : Lists) (stands : Stands T d.tables) where
    between : (c g r b : ℤ) (u : ℕ) → c +ℤ r ≡ pos u → r ≡ g +ℤ b → InRange (c +ℤ r) → pos 0 ≤ℤ b → InRange b → InRange (c +ℤ g)
    between c g r b u now was hi lo top = (omega (arith, ints), omega (arith, ints))

    pub room_for : (t : ℕ) → AllInRange (change_at changes t ++ given t)
    room_for t q =
        let c = weight_of (change_at changes t) q in
        let r = weight_of (rows_of d.tables t) q in
        subst InRange (sym (weight_of-append (change_at changes t) (given t) q))
        (between c (weight_of (given t) q) r (weight_of (rows_of before.tables t) q) _ (sym (weight_of-append (change_at changes t) (rows_of d.tables t) q) ∙ (p.leads T stands).lead t q)
        (w.sums t q ∙ weight_of-append (given t) (rows_of before.tables t) q)
        (subst InRange (weight_of-append (change_at changes t) (rows_of d.tables t) q) ((p.keep t).in_range q)) (stored.positive t q) (InRange-weight_of (rows_of before.tables t) (stored.zsets t) q))

-- ---- the tables of changes

pub append-map_take_none : {X : Type 0} (f : X → ℕ) (xs : List X) (ts : List ℕ) → ts ≡ ts ++ map f (take 0 xs)
append-map_take_none f xs ts = sym (append-nil ts)

pub append-map_take_next : {X : Type 0} (f : X → ℕ) (xs : List X) (i : ℕ) (x : X) (y : ℕ) (base ts new : List ℕ) → i < length xs → x ≡ get_or xs i x → ts ≡ base ++ map f (take i xs) → y ≡ f x → new ≡ ts ++ y ∷ []
    → new ≡ base ++ map f (take (i + 1) xs)
append-map_take_next f xs i x y base ts new low at so_far one is =
    is ∙ (λ j. so_far j ++ one j ∷ []) ∙ append_assoc base (map f (take i xs)) (f x ∷ [])
    ∙ ap (λ zs. base ++ zs) (sym (map-append f (take i xs) (x ∷ [])) ∙ sym (ap (map f) (take_more xs i x low ∙ ap (λ z. take i xs ++ z ∷ []) (sym at))))

-- ---- what commands make of the sums

-- one behind which stands a state with the rights, relations and rows of before
pub kept_sums : (before e one : Store) (given : Given) (tables : List ℕ) (s : State) → IsBehind s (seen one) → s.frame.cap ≡ e.cap → s.frame.rights ≡ e.known.rights → s.frame.catalog ≡ e.catalog → Stands s.rows e.tables
    → AreWritten before given tables e → AreWritten before given tables one
kept_sums before e one given tables s b cap rights catalog stands w = still_written before e one given tables w
    (ap (λ (f : Frame). f.cap) (sym b.frame) ∙ cap) (ap (λ (f : Frame). f.rights) (sym b.frame) ∙ rights) (ap (λ (f : Frame). f.catalog) (sym b.frame) ∙ catalog) (same_rows e one s.rows stands b.rows)

module _ (before e one : Store) (given : Given) (tables : List ℕ) (n : ℕ) (a : Answer) (stored : IsStored e) where
  abbrev T : Lists
  T = lists_behind e

  stands : Stands T e.tables
  stands = Stands-IsStored e stored

  pub begun_sums : (role : Name) → IsAccepted e n (begin role) a one → AreWritten before given tables e → AreWritten before given tables one
  begun_sums role k w = kept_sums before e one given tables (settled (begin role) (after (at e T) n (begin role))) (k.left T stands) refl refl refl stands w

  pub finished_sums : IsAccepted e n finish a one → AreWritten before given tables e → AreWritten before given tables one
  finished_sums k w = kept_sums before e one given tables (settled finish (after (at e T) n finish)) (k.left T stands) refl refl refl stands w

  pub write_sums : (es : List Entry) (changes : List Change) → Passes (database_of e) n es changes → IsAccepted e n (write es) a one → (more : Given) → AreGivenMore given changes more
      → AreWritten before given tables e → AreWritten before more (tables ++ map (λ c. c.rel) changes) one
  write_sums es changes p k more m w =
      let b = subst (λ (s : State). IsBehind s (seen one)) (write_left e n es stored T) (k.left T stands) in
      more_written before e given tables w changes one more m (ap (λ (f : Frame). f.cap) (sym b.frame)) (ap (λ (f : Frame). f.rights) (sym b.frame)) (ap (λ (f : Frame). f.catalog) (sym b.frame))
      (λ t q. b.rows t q ∙ sym ((p.leads T stands).lead t q))

-- ---- acts of the code

pub OnOk-whatever : {A E : Type 0} (r : Result A E) (P : Type 0) → P → OnOk r P
OnOk-whatever (Ok a) P p = p
OnOk-whatever (Err x) P p = tt

-- one that is no write
pub not_is_write-act_of : (a : Act) → ((entries : Vec Entry) → a ≡ Write entries → ⊥) → is_write (act_of a) ≡ true → ⊥
not_is_write-act_of (Begin role) n h = cc
not_is_write-act_of Finish n h = cc
not_is_write-act_of (CreateRole name) n h = cc
not_is_write-act_of (CreateTable name owner columns) n h = cc
not_is_write-act_of (CreateView name owner query) n h = cc
not_is_write-act_of (Grant rel privileges grantee) n h = cc
not_is_write-act_of (Revoke rel privileges grantee) n h = cc
not_is_write-act_of (GrantRole role to) n h = cc
not_is_write-act_of (RevokeRole role to) n h = cc
not_is_write-act_of (RowSecurity rel enable force) n h = cc
not_is_write-act_of (CreatePolicy policy) n h = cc
not_is_write-act_of (DropPolicy rel name) n h = cc
not_is_write-act_of (Write entries) n h = n entries refl
not_is_write-act_of (Subscribe rel) n h = cc
not_is_write-act_of (Unsubscribe sub) n h = cc

-- what an answered write makes of the sums, where it was one that passed
pub AreSumsOf-IsStep : (e two : Store) (s t : Sums) (n : ℕ) (es : List Entry) (changes : List Change) → IsStored e → Passes (database_of e) n es changes → (r : Result Answer Stop) → IsStep e n (write es) r two
    → AreGivenMore (change_in s.deltas) changes (change_in t.deltas) → t.tables.items ≡ s.tables.items ++ map (λ c. c.rel) changes → t.others ≡ s.others
    → OnOk r ((before : Store) → IsDatabase (database_of before) → AreSumsOf before s e → AreSumsOf before t two)
AreSumsOf-IsStep e two s t n es changes stored p (Err x) k m tables others = tt
AreSumsOf-IsStep e two s t n es changes stored p (Ok a) k m tables others = λ before d h writes.
    subst (λ ts. AreWritten before (change_in t.deltas) ts two) (sym tables)
    (write_sums before e two (change_in s.deltas) s.tables.items n a stored es changes p k (change_in t.deltas) m (h (sym others ∙ writes)))

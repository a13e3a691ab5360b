-- What a member more makes of an entry's parts, and of a write's.
use Rattle.std.proofs.Common.{◌≡◌, ◌∙◌, ◌∷◌, ◌≤◌, ℕ, Bool, true, false, ◌||◌, List, [], length, Option, Some, None, option_map, option_and_then, cond, refl, sym, ap, subst, arith}
use Rattle.std.specs.Prelude.{bytes_eq, codes, is_some, nat_le, nat_lt, ℤ, pos, negsuc, IfSome, MatchOption}
use Rattle.std.proofs.Common.{w64, to_z, of_z}
use Rattle.std.proofs.lemmas.Bool.{ltb-true}
use Rattle.std.proofs.lemmas.Int.{to_z-of_z}
use Rattle.std.proofs.lemmas.Slice.Eq.{bytes_eq-Decides}
use Rattle.json.specs.Token.{Token}
use Rattle.serde_json.specs.Data.{Data, array, item, no_items, object, Members, no_members, member, put}
use Rattle.serde_json.specs.Find.{as_array, as_number, as_str, as_u64, get_member}
use Rattle.iv_rows.specs.Cell.{Cell}
use Rattle.iv_rows.specs.Names.{is_name}
use Rattle.iv_machine.specs.Act.{Op, Entry, insert, delete, update}
use Rattle.iv_machine.specs.Act as machine
use Rattle.iv_machine.specs.Parts.{is_between, is_positive}
use Rattle.iv_command.specs.Entries.{copies_of}
use Rattle.iv_request.specs.Forms.{is_among, keys_pass}
use Rattle.iv_request.specs.Request.{passing, each, given_or, positive_of, row_of, update_of, op_at, does_at, entry, entry_of, is_session, command, request}
use Rattle.iv_request.specs.Documents.{data_of}
use Rattle.iv_reading.specs.Pulled.{Pulls, Adds, DoesNothing, Does, MakesParts, MakesWrite, name_of, op_by, entries_by, session_by}
use Rattle.iv_request.proofs.Keys.{left_true, right_true, both_true, keys_pass-put}
use Rattle.iv_request.proofs.BorrowedValues.{get_member-of_put}
use Rattle.iv_reading.proofs.TokensAndValues.{IsNext-le}
use Rattle.iv_request.proofs.Well.{is_positive-positive_of}

same : (k : List ℕ) (d : Data) (ms : Members) → bytes_eq k k ≡ true → get_member k (put k d ms) ≡ Some d
same k d ms e = get_member-of_put k k d ms true e

other : (q k : List ℕ) (d : Data) (ms : Members) → bytes_eq k q ≡ false → get_member q (put k d ms) ≡ get_member q ms
other q k d ms e = get_member-of_put q k d ms false e

-- ---- keys

one_passes : (test : List ℕ → Bool) (k : List ℕ) (d : Data) (ms : Members) → test k ≡ true → keys_pass test ms ≡ true → keys_pass test (put k d ms) ≡ true
one_passes test k d ms e h = keys_pass-put test k d ms ∙ both_true (test k) (keys_pass test ms) e h

wider : (a b c : Bool) → (a || c) ≡ true → (a || (b || c)) ≡ true
wider true b c h = refl
wider false true c h = refl
wider false false c h = h

last_is : (b c : Bool) → c ≡ true → (b || c) ≡ true
last_is true c h = refl
last_is false c h = h

abbrev few : List (List ℕ)
few = codes "on" ∷ codes "copies" ∷ []

abbrev these : List ℕ → List (List ℕ)
these x = codes "on" ∷ x ∷ codes "copies" ∷ []

more_keys : (x : List ℕ) (ms : Members) → keys_pass (is_among few) ms ≡ true → keys_pass (is_among (these x)) ms ≡ true
more_keys x no_members h = refl
more_keys x (member k d ms) h =
    both_true (is_among (these x) k) (keys_pass (is_among (these x)) ms)
    (wider (bytes_eq (codes "on") k) (bytes_eq x k) _ (left_true (is_among few k) _ h))
    (more_keys x ms (right_true (is_among few k) _ h))

-- ---- what an entry does

abbrev op_from : Option Data → Option Data → Option Data → Option Op
op_from i d u = cond (is_some i) (option_map insert (option_and_then row_of i)) (cond (is_some d) (option_map delete (option_and_then row_of d)) (option_and_then update_of u))

abbrev key_from : Option Data → Option Data → List ℕ
key_from i d = cond (is_some i) (codes "insert") (cond (is_some d) (codes "delete") (codes "update"))

op_stays : (k : List ℕ) (d : Data) (ms : Members) → bytes_eq k (codes "insert") ≡ false → bytes_eq k (codes "delete") ≡ false → bytes_eq k (codes "update") ≡ false
    → (op_at (object (put k d ms)) ≡ op_at (object ms)) × (does_at (object (put k d ms)) ≡ does_at (object ms))
op_stays k d ms i e u = (
  (λ t. op_from (other (codes "insert") k d ms i t) (other (codes "delete") k d ms e t) (other (codes "update") k d ms u t)),
  (λ t. key_from (other (codes "insert") k d ms i t) (other (codes "delete") k d ms e t)),
)

-- a key that is none of what an entry does, and is one of an entry's
does_still : (k : List ℕ) (d : Data) (ms : Members) (op : Option Op) → bytes_eq k (codes "insert") ≡ false → bytes_eq k (codes "delete") ≡ false → bytes_eq k (codes "update") ≡ false
    → is_among few k ≡ true → MatchOption op (DoesNothing (object ms)) (Does (object ms)) → MatchOption op (DoesNothing (object (put k d ms))) (Does (object (put k d ms)))
does_still k d ms None i e u few_one h = record {
  insert = ap is_some (other (codes "insert") k d ms i) ∙ h.insert;
  delete = ap is_some (other (codes "delete") k d ms e) ∙ h.delete;
  update = ap is_some (other (codes "update") k d ms u) ∙ h.update;
  only = one_passes (is_among few) k d ms few_one h.only;
}
does_still k d ms (Some op) i e u few_one h =
    let stays = op_stays k d ms i e u in
    let x = does_at (object ms) in
    record {
      is = stays.0 ∙ h.is;
      only =
          ap (λ y. keys_pass (is_among (these y)) (put k d ms)) stays.1
          ∙ one_passes (is_among (these x)) k d ms (wider (bytes_eq (codes "on") k) (bytes_eq x k) _ few_one) h.only;
    }

inserts : (d : Data) (ms : Members) (op : Op) → option_map insert (row_of d) ≡ Some op → DoesNothing (object ms) → Does (object (put (codes "insert") d ms)) op
inserts d ms op e h =
    let k = codes "insert" in
    let here = same k d ms refl in
    record {
      is = ap (λ g. op_from g (get_member (codes "delete") (put k d ms)) (get_member (codes "update") (put k d ms))) here ∙ e;
      only =
          ap (λ g. keys_pass (is_among (these (key_from g (get_member (codes "delete") (put k d ms))))) (put k d ms)) here
          ∙ one_passes (is_among (these k)) k d ms refl (more_keys k ms h.only);
    }

deletes : (d : Data) (ms : Members) (op : Op) → option_map delete (row_of d) ≡ Some op → DoesNothing (object ms) → Does (object (put (codes "delete") d ms)) op
deletes d ms op e h =
    let k = codes "delete" in
    let here = same k d ms refl in
    let before = ap is_some (other (codes "insert") k d ms refl) ∙ h.insert in
    record {
      is =
          ap (λ b. cond b (option_map insert (option_and_then row_of (get_member (codes "insert") (put k d ms)))) (op_from None (get_member k (put k d ms)) (get_member (codes "update") (put k d ms)))) before
          ∙ ap (λ g. op_from None g (get_member (codes "update") (put k d ms))) here ∙ e;
      only =
          ap (λ b. keys_pass (is_among (these (cond b (codes "insert") (key_from None (get_member k (put k d ms)))))) (put k d ms)) before
          ∙ ap (λ g. keys_pass (is_among (these (key_from None g))) (put k d ms)) here
          ∙ one_passes (is_among (these k)) k d ms refl (more_keys k ms h.only);
    }

updates : (d : Data) (ms : Members) (op : Op) → update_of d ≡ Some op → DoesNothing (object ms) → Does (object (put (codes "update") d ms)) op
updates d ms op e h =
    let k = codes "update" in
    let here = same k d ms refl in
    let first = ap is_some (other (codes "insert") k d ms refl) ∙ h.insert in
    let second = ap is_some (other (codes "delete") k d ms refl) ∙ h.delete in
    record {
      is =
          ap (λ b. cond b (option_map insert (option_and_then row_of (get_member (codes "insert") (put k d ms)))) (op_from None (get_member (codes "delete") (put k d ms)) (get_member k (put k d ms)))) first
          ∙ ap (λ b. cond b (option_map delete (option_and_then row_of (get_member (codes "delete") (put k d ms)))) (option_and_then update_of (get_member k (put k d ms)))) second
          ∙ ap (option_and_then update_of) here ∙ e;
      only =
          ap (λ b. keys_pass (is_among (these (cond b (codes "insert") (key_from None (get_member (codes "delete") (put k d ms)))))) (put k d ms)) first
          ∙ ap (λ b. keys_pass (is_among (these (cond b (codes "delete") (codes "update")))) (put k d ms)) second
          ∙ one_passes (is_among (these k)) k d ms refl (more_keys k ms h.only);
    }

-- the keys of what an entry does are neither its relation's nor its copies'
does_by : (k : List ℕ) (d : Data) (ms : Members) (rel : Option (List ℕ)) (copies : ℕ) (op : Op) (a b c : Bool) → bytes_eq k (codes "insert") ≡ a → bytes_eq k (codes "delete") ≡ b → bytes_eq k (codes "update") ≡ c
    → cond a (option_map insert (row_of d)) (cond b (option_map delete (row_of d)) (cond c (update_of d) None)) ≡ Some op → MakesParts (object ms) rel None copies
    → MakesParts (object (put k d ms)) rel (Some op) copies
does_by k d ms rel copies op true b c i e u is h =
    subst (λ x. MakesParts (object (put x d ms)) rel (Some op) copies) (sym ((bytes_eq-Decides k (codes "insert")).0 i)) (record {
      named = ap (λ g. option_and_then (passing is_name) (option_and_then as_str g)) (other (codes "on") (codes "insert") d ms refl) ∙ h.named;
      does = inserts d ms op is h.does;
      copied = ap (given_or 1 positive_of) (other (codes "copies") (codes "insert") d ms refl) ∙ h.copied;
    })
does_by k d ms rel copies op false true c i e u is h =
    subst (λ x. MakesParts (object (put x d ms)) rel (Some op) copies) (sym ((bytes_eq-Decides k (codes "delete")).0 e)) (record {
      named = ap (λ g. option_and_then (passing is_name) (option_and_then as_str g)) (other (codes "on") (codes "delete") d ms refl) ∙ h.named;
      does = deletes d ms op is h.does;
      copied = ap (given_or 1 positive_of) (other (codes "copies") (codes "delete") d ms refl) ∙ h.copied;
    })
does_by k d ms rel copies op false false true i e u is h =
    subst (λ x. MakesParts (object (put x d ms)) rel (Some op) copies) (sym ((bytes_eq-Decides k (codes "update")).0 u)) (record {
      named = ap (λ g. option_and_then (passing is_name) (option_and_then as_str g)) (other (codes "on") (codes "update") d ms refl) ∙ h.named;
      does = updates d ms op is h.does;
      copied = ap (given_or 1 positive_of) (other (codes "copies") (codes "update") d ms refl) ∙ h.copied;
    })
does_by k d ms rel copies op false false false i e u is h = cc

pub does_this : (k : List ℕ) (d : Data) (ms : Members) (rel : Option (List ℕ)) (copies : ℕ) (op : Op) → op_by k d ≡ Some op → MakesParts (object ms) rel None copies → MakesParts (object (put k d ms)) rel (Some op) copies
does_this k d ms rel copies op is h = does_by k d ms rel copies op _ _ _ refl refl refl is h

pub is_on : (k : List ℕ) (d : Data) (ms : Members) (rel : Option (List ℕ)) (op : Option Op) (copies : ℕ) (name : List ℕ) → k ≡ codes "on" → name_of d ≡ Some name → MakesParts (object ms) rel op copies
    → MakesParts (object (put k d ms)) (Some name) op copies
is_on k d ms rel op copies name is e h =
    subst (λ x. MakesParts (object (put x d ms)) (Some name) op copies) (sym is) (record {
      named = ap (λ g. option_and_then (passing is_name) (option_and_then as_str g)) (same (codes "on") d ms refl) ∙ e;
      does = does_still (codes "on") d ms op refl refl refl refl h.does;
      copied = ap (given_or 1 positive_of) (other (codes "copies") (codes "on") d ms refl) ∙ h.copied;
    })

pub has_copies : (k : List ℕ) (d : Data) (ms : Members) (rel : Option (List ℕ)) (op : Option Op) (before copies : ℕ) → k ≡ codes "copies" → positive_of d ≡ Some copies → MakesParts (object ms) rel op before
    → MakesParts (object (put k d ms)) rel op copies
has_copies k d ms rel op before copies is e h =
    subst (λ x. MakesParts (object (put x d ms)) rel op copies) (sym is) (record {
      named = ap (λ g. option_and_then (passing is_name) (option_and_then as_str g)) (other (codes "on") (codes "copies") d ms refl) ∙ h.named;
      does = does_still (codes "copies") d ms op refl refl refl refl h.does;
      copied = ap (given_or 1 positive_of) (same (codes "copies") d ms refl) ∙ e;
    })

pub nothing_made : MakesParts (object no_members) None None 1
nothing_made = record { named = refl; does = record { insert = refl; delete = refl; update = refl; only = refl }; copied = refl }

pub entry_made : (d : Data) (rel : List ℕ) (op : Op) (copies : ℕ) → MakesParts d (Some rel) (Some op) copies → entry_of d ≡ Some (entry rel op copies)
entry_made d rel op copies h = rw (h.does.only, h.named, h.does.is, h.copied) refl

pub entry_if : {S T : Type 0} (bytes : S → List ℕ) (view : T → Op) (r : Option S) (o : Option T) (rel : S) (op : T) (copies : ℕ) (d : Data) → r ≡ Some rel → o ≡ Some op → MakesParts d (option_map bytes r) (option_map view o) copies
    → entry_of d ≡ Some (entry (bytes rel) (view op) copies)
entry_if bytes view r o rel op copies d e u h =
    entry_made d (bytes rel) (view op) copies
    (subst (λ x. MakesParts d (Some (bytes rel)) (option_map view x) copies) u (subst (λ x. MakesParts d (option_map bytes x) (option_map view o) copies) e h))

-- ---- what is next, by its key

-- the update of two rows
pub update_of-row_of : (old new : List Cell) (a b : Data) → row_of a ≡ Some old → row_of b ≡ Some new → update_of (array (item a (item b no_items))) ≡ Some (update old new)
update_of-row_of old new a b e u = ap (option_and_then (λ x. option_map (update x) (row_of b))) e ∙ ap (option_map (update old)) u

abbrev op_chosen : Bool → Bool → Bool → Data → Option Op
op_chosen i e u d = cond i (option_map insert (row_of d)) (cond e (option_map delete (row_of d)) (cond u (update_of d) None))

pub inserts_next : (k : List ℕ) (ts rest : List Token) (r : Option (List Cell)) → bytes_eq k (codes "insert") ≡ true → IfSome r (λ row. Pulls 1 row_of ts row rest)
    → IfSome r (λ row. Pulls 2 (op_by k) ts (insert row) rest)
inserts_next k ts rest None i p = tt
inserts_next k ts rest (Some row) i p = (
  p.0,
  IsNext-le 1 2 ts p.0 rest (omega arith) p.1,
  ap (λ b. op_chosen b (bytes_eq k (codes "delete")) (bytes_eq k (codes "update")) (data_of p.0)) i ∙ ap (option_map insert) p.2,
)

pub deletes_next : (k : List ℕ) (ts rest : List Token) (r : Option (List Cell)) → bytes_eq k (codes "insert") ≡ false → bytes_eq k (codes "delete") ≡ true → IfSome r (λ row. Pulls 1 row_of ts row rest)
    → IfSome r (λ row. Pulls 2 (op_by k) ts (delete row) rest)
deletes_next k ts rest None i e p = tt
deletes_next k ts rest (Some row) i e p = (
  p.0,
  IsNext-le 1 2 ts p.0 rest (omega arith) p.1,
  (λ t. op_chosen (i t) (e t) (bytes_eq k (codes "update")) (data_of p.0)) ∙ ap (option_map delete) p.2,
)

pub updates_next : (k : List ℕ) (ts rest : List Token) (r : Option Op) → bytes_eq k (codes "insert") ≡ false → bytes_eq k (codes "delete") ≡ false → bytes_eq k (codes "update") ≡ true
    → IfSome r (λ op. Pulls 2 update_of ts op rest) → IfSome r (λ op. Pulls 2 (op_by k) ts op rest)
updates_next k ts rest None i e u p = tt
updates_next k ts rest (Some op) i e u p = (p.0, p.1, (λ t. op_chosen (i t) (e t) (u t) (data_of p.0)) ∙ p.2)

key_is : (k m : List ℕ) → bytes_eq k m ≡ true → k ≡ m
key_is k m e = (bytes_eq-Decides k m).0 e

-- a value is next that gives the members this part
adds : {X : Type 0} (a b : ℕ) (f : Data → Option X) (k : List ℕ) (ms : Members) (P : Members → Type 0) (ts rest : List Token) (x : X) → a ≤ b → Pulls a f ts x rest → ((d : Data) → f d ≡ Some x → P (put k d ms))
    → Adds b k ms P ts rest
adds a b f k ms P ts rest x le p makes = (p.0, IsNext-le a b ts p.0 rest le p.1, makes (data_of p.0) p.2)

pub Adds-on : {S : Type 0} (bytes : S → List ℕ) (r : Option S) (k : List ℕ) (ts rest : List Token) (ms : Members) (rel : Option (List ℕ)) (op : Option Op) (copies : ℕ) → bytes_eq k (codes "on") ≡ true → is_some r ≡ true
    → IfSome r (λ name. Pulls 0 name_of ts (bytes name) rest) → MakesParts (object ms) rel op copies
    → Adds 2 k ms (λ ns. MakesParts (object ns) (option_map bytes r) op copies) ts rest
Adds-on bytes None k ts rest ms rel op copies e some p h = cc
Adds-on bytes (Some name) k ts rest ms rel op copies e some p h =
    adds 0 2 name_of k ms (λ ns. MakesParts (object ns) (Some (bytes name)) op copies) ts rest (bytes name) (omega arith) p
    (λ d made. is_on k d ms rel op copies (bytes name) (key_is k (codes "on") e) made h)

-- it is of 64 bits
kept_copies : (z : ℤ) → is_positive (copies_of z) ≡ true → copies_of (to_z w64 (of_z w64 z)) ≡ copies_of z
kept_copies (pos n) e = ap copies_of (to_z-of_z w64 (pos n) (record { sfits = ltb-true n 9223372036854775808 (right_true (nat_le 1 n) (nat_lt n 9223372036854775808) e) }))
kept_copies (negsuc n) e = cc

pub Adds-copies : (z : ℤ) (k : List ℕ) (ts rest : List Token) (ms : Members) (rel : Option (List ℕ)) (op : Option Op) (before : ℕ) → bytes_eq k (codes "copies") ≡ true → Pulls 0 positive_of ts (copies_of z) rest
    → MakesParts (object ms) rel op before → Adds 2 k ms (λ ns. MakesParts (object ns) rel op (copies_of (to_z w64 (of_z w64 z)))) ts rest
Adds-copies z k ts rest ms rel op before e p h =
    let kept = kept_copies z (subst (λ o. IfSome o (λ n. is_positive n ≡ true)) p.2 (is_positive-positive_of (data_of p.0))) in
    subst (λ n. Adds 2 k ms (λ ns. MakesParts (object ns) rel op n) ts rest) (sym kept)
    (adds 0 2 positive_of k ms (λ ns. MakesParts (object ns) rel op (copies_of z)) ts rest (copies_of z) (omega arith) p
    (λ d made. has_copies k d ms rel op before (copies_of z) (key_is k (codes "copies") e) made h))

pub Adds-op : {S : Type 0} (view : S → Op) (r was : Option S) (k : List ℕ) (ts rest : List Token) (ms : Members) (rel : Option (List ℕ)) (copies : ℕ) → is_some was ≡ false → is_some r ≡ true
    → IfSome r (λ op. Pulls 2 (op_by k) ts (view op) rest) → MakesParts (object ms) rel (option_map view was) copies
    → Adds 2 k ms (λ ns. MakesParts (object ns) rel (option_map view r) copies) ts rest
Adds-op view None was k ts rest ms rel copies none some p h = cc
Adds-op view (Some op) (Some before) k ts rest ms rel copies none some p h = cc
Adds-op view (Some op) None k ts rest ms rel copies none some p h =
    adds 2 2 (op_by k) k ms (λ ns. MakesParts (object ns) rel (Some (view op)) copies) ts rest (view op) (omega arith) p
    (λ d made. does_this k d ms rel copies (view op) made h)

-- ---- a write

abbrev all_keys : List (List ℕ)
all_keys = codes "do" ∷ codes "session" ∷ codes "entries" ∷ []

abbrev session_from : Option Data → Option ℕ
session_from g = option_and_then (passing is_session) (option_and_then as_u64 (option_and_then as_number g))

abbrev entries_from : Option Data → Option (List Entry)
entries_from g = option_and_then (passing (λ es. is_between 1 1000 (length es))) (option_and_then (each entry_of) (option_and_then as_array g))

pub is_do : (k : List ℕ) (d : Data) (ms : Members) (before now : Bool) (session : Option ℕ) (entries : Option (List Entry)) → k ≡ codes "do" → as_str d ≡ Some (codes "write") → MakesWrite (object ms) before session entries
    → MakesWrite (object (put k d ms)) now session entries
is_do k d ms before now session entries is e h =
    subst (λ x. MakesWrite (object (put x d ms)) now session entries) (sym is) (record {
      word = λ _. ap (option_and_then as_str) (same (codes "do") d ms refl) ∙ e;
      asks = ap session_from (other (codes "session") (codes "do") d ms refl) ∙ h.asks;
      writes = ap entries_from (other (codes "entries") (codes "do") d ms refl) ∙ h.writes;
      only = one_passes (is_among all_keys) (codes "do") d ms refl h.only;
    })

pub has_session : (k : List ℕ) (d : Data) (ms : Members) (is_write : Bool) (before : Option ℕ) (n : ℕ) (entries : Option (List Entry)) → k ≡ codes "session" → session_by d ≡ Some n → MakesWrite (object ms) is_write before entries
    → MakesWrite (object (put k d ms)) is_write (Some n) entries
has_session k d ms is_write before n entries is e h =
    subst (λ x. MakesWrite (object (put x d ms)) is_write (Some n) entries) (sym is) (record {
      word = λ w. ap (option_and_then as_str) (other (codes "do") (codes "session") d ms refl) ∙ h.word w;
      asks = ap session_from (same (codes "session") d ms refl) ∙ e;
      writes = ap entries_from (other (codes "entries") (codes "session") d ms refl) ∙ h.writes;
      only = one_passes (is_among all_keys) (codes "session") d ms refl h.only;
    })

pub has_entries : (k : List ℕ) (d : Data) (ms : Members) (is_write : Bool) (session : Option ℕ) (before : Option (List Entry)) (es : List Entry) → k ≡ codes "entries" → entries_by d ≡ Some es → MakesWrite (object ms) is_write session before
    → MakesWrite (object (put k d ms)) is_write session (Some es)
has_entries k d ms is_write session before es is e h =
    subst (λ x. MakesWrite (object (put x d ms)) is_write session (Some es)) (sym is) (record {
      word = λ w. ap (option_and_then as_str) (other (codes "do") (codes "entries") d ms refl) ∙ h.word w;
      asks = ap session_from (other (codes "session") (codes "entries") d ms refl) ∙ h.asks;
      writes = ap entries_from (same (codes "entries") d ms refl) ∙ e;
      only = one_passes (is_among all_keys) (codes "entries") d ms refl h.only;
    })

pub nothing_written : MakesWrite (object no_members) false None None
nothing_written = record { word = λ w. cc; asks = refl; writes = refl; only = refl }

are_there : (g : Option Data) (es : List Entry) → entries_from g ≡ Some es → is_some g ≡ true
are_there None es e = cc
are_there (Some d) es e = refl

pub write_made : (ms : Members) (n : ℕ) (es : List Entry) → MakesWrite (object ms) true (Some n) (Some es) → request (object ms) ≡ Some (command n (machine.write es))
write_made ms n es h = rw (h.asks, h.word refl, are_there (get_member (codes "entries") ms) es h.writes, h.only, h.writes) refl

pub Adds-do : (k : List ℕ) (ts rest : List Token) (ms : Members) (before now : Bool) (session : Option ℕ) (entries : Option (List Entry)) → bytes_eq k (codes "do") ≡ true → Pulls 0 as_str ts (codes "write") rest
    → MakesWrite (object ms) before session entries → Adds 4 k ms (λ ns. MakesWrite (object ns) now session entries) ts rest
Adds-do k ts rest ms before now session entries e p h =
    adds 0 4 as_str k ms (λ ns. MakesWrite (object ns) now session entries) ts rest (codes "write") (omega arith) p
    (λ d made. is_do k d ms before now session entries (key_is k (codes "do") e) made h)

pub Adds-session : (r : Option ℕ) (k : List ℕ) (ts rest : List Token) (ms : Members) (is_write : Bool) (before : Option ℕ) (entries : Option (List Entry)) → bytes_eq k (codes "session") ≡ true → is_some r ≡ true
    → IfSome r (λ n. Pulls 0 session_by ts n rest) → MakesWrite (object ms) is_write before entries → Adds 4 k ms (λ ns. MakesWrite (object ns) is_write r entries) ts rest
Adds-session None k ts rest ms is_write before entries e some p h = cc
Adds-session (Some n) k ts rest ms is_write before entries e some p h =
    adds 0 4 session_by k ms (λ ns. MakesWrite (object ns) is_write (Some n) entries) ts rest n (omega arith) p
    (λ d made. has_session k d ms is_write before n entries (key_is k (codes "session") e) made h)

pub Adds-entries : {S : Type 0} (view : S → List Entry) (r : Option S) (k : List ℕ) (ts rest : List Token) (ms : Members) (is_write : Bool) (session : Option ℕ) (before : Option (List Entry))
    → bytes_eq k (codes "entries") ≡ true → is_some r ≡ true → IfSome r (λ es. Pulls 4 entries_by ts (view es) rest) → MakesWrite (object ms) is_write session before
    → Adds 4 k ms (λ ns. MakesWrite (object ns) is_write session (option_map view r)) ts rest
Adds-entries view None k ts rest ms is_write session before e some p h = cc
Adds-entries view (Some es) k ts rest ms is_write session before e some p h =
    adds 4 4 entries_by k ms (λ ns. MakesWrite (object ns) is_write session (Some (view es))) ts rest (view es) (omega arith) p
    (λ d made. has_entries k d ms is_write session before (view es) (key_is k (codes "entries") e) made h)

pub write_if : {S : Type 0} (view : S → List Entry) (b : Bool) (s : Option ℕ) (o : Option S) (n : ℕ) (es : S) (ms : Members) → b ≡ true → s ≡ Some n → o ≡ Some es → MakesWrite (object ms) b s (option_map view o)
    → request (object ms) ≡ Some (command n (machine.write (view es)))
write_if view b s o n es ms w e u h =
    write_made ms n (view es)
    (subst (λ x. MakesWrite (object ms) true (Some n) (option_map view x)) u (subst (λ x. MakesWrite (object ms) true x (option_map view o)) e (subst (λ x. MakesWrite (object ms) x s (option_map view o)) w h)))

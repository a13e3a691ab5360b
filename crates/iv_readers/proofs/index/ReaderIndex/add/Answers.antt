use Rattle.std.proofs.Common.{◌≡◌, ◌∙◌, Option, None, Some, refl, sym, true}
use Rattle.std.specs.Prelude.{is_some, option_map}
use Rattle.std.specs.BTreeMap.{get}
use Rattle.iv_readers.specs.Index.{found_in, pair_cmp}
use Rattle.iv_readers.specs.declared.ids.ReaderId.{ReaderId}
use Rattle.iv_readers.proofs.ReaderIndexes.{with_reader-come, with_reader-there}
use Rattle.iv_readers.proofs.index.ReaderIndex.add.Goals as goal

is_some-number : (o : Option ReaderId) → is_some (option_map (λ r. r.0) o) ≡ is_some o
is_some-number None = refl
is_some-number (Some r) = refl

pub returns-then-contains_key : goal.returns-then-contains_key
returns-then-contains_key c = λ a b.
    let role = c.args.role.0 in
    let rel = c.args.rel.0 in
    let there = is_some-number (get pair_cmp c.args.self.now.first (role, rel)) ∙ sym c.contains_key.ensures ∙ c.if-contains_key.true in
    with_reader-there role rel c.args.reader.0 (found_in c.args.self.now) there a b

pub returns : goal.returns
returns c = λ a b.
    let old = c.args.self.now.first in
    let new = c.insert.new.self in
    with_reader-come c.args.role.0 c.args.rel.0 c.args.reader (λ m n. get pair_cmp old (m, n)) (λ m n. get pair_cmp new (m, n))
    (sym c.contains_key.ensures ∙ c.if-contains_key.false) (λ m n. c.in_ok-insert.ensures.updates.0 (m, n)) a b

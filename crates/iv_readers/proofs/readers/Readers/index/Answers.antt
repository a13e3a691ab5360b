use Rattle.std.proofs.Common.{◌<◌, ◌≤◌, List, ap, length, subst}
use Rattle.std.proofs.lemmas.List.{take_all}
use Rattle.std.specs.Prelude.{option_map}
use Rattle.std.specs.Map.{lookup}
use Rattle.std.specs.BTreeMap.{is_at}
use Rattle.iv_readers.specs.Index.{IsIndexOf, found_in, pair_cmp}
use Rattle.iv_readers.specs.Readers.{RoleCircuit}
use Rattle.iv_readers.specs.declared.ids.ReaderId.{ReaderId}
use Rattle.iv_readers.proofs.Held.{get_or-own_reader}
use Rattle.iv_readers.proofs.ReaderIndexes.{with_reader-next}
use Rattle.iv_readers.proofs.readers.Readers.index.Goals as goal

pub loop-place-init : goal.loop-place-init
loop-place-init c = λ a b. ap (λ es. option_map (λ (r : ReaderId). r.0) (lookup (is_at (pair_cmp (a, b))) es)) c.new-first.ensures.empty

pub loop-place-preserved : goal.loop-place-preserved
loop-place-preserved c =
    let ks = c.args.self.now in
    let i = c.loop-place.place in
    let low : i < length ks = subst (λ n. i < n) c.len-place-end.ensures c.loop-place-test.true in
    let k = get_or-own_reader ks i low in
    with_reader-next ks i k.0 c.role.result.0 c.rel.result.0 low k.1 (c.role.ensures k.0 k.1) (c.rel.ensures k.0 k.1) (found_in c.loop-place.index) (found_in c.add.new.self) c.loop-place.invariant
    c.in_ok-add.ensures

pub returns : goal.returns
returns c =
    let ks = c.args.self.now in
    let i = c.loop-place.place in
    let out : length ks ≤ i = subst (λ n. n ≤ i) c.len-place-end.ensures c.loop-place-test.false in
    subst (λ (xs : List RoleCircuit). IsIndexOf xs c.loop-place.index) (take_all i ks out) c.loop-place.invariant

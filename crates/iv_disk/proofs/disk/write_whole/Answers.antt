use Rattle.std.proofs.Common.{◌≡◌, [], ◌++◌, rules, take, sym, ap, ◌∙◌, subst, append-nil, drop_of_length-le}
use Rattle.std.specs.Io.KnownBytes.{Appends}
use Rattle.std.proofs.KnownBytes.{Appends-trans}
use Rattle.iv_disk.proofs.Known.{Appends-Keeps_front, Appends-take_of_done, append-moved_front, OnErr-whatever}
use Rattle.iv_disk.proofs.disk.write_whole.Goals as goal

pub loop-preserved : goal.loop-preserved
loop-preserved g c =
    let (done, split, appended, silent) = c.loop.invariant in
    let rest = c.loop.rest.now in
    let n = c.in_ok-count.count in
    (done ++ take n rest, append-moved_front _ done rest n split, Appends-trans _ _ _ _ _ appended c.in_ok-count.ensures.bytes, λ h. c.in_ok-count.ensures.silent (silent h))

pub returns-then-is_empty-clause-appended : goal.returns-then-is_empty-clause-appended
returns-then-is_empty-clause-appended g c =
    let (done, split, appended, silent) = c.loop.invariant in
    let rest = c.loop.rest.now in
    let empty : rest ≡ [] = drop_of_length-le rest {i = 0} (search rules) in
    subst (Appends _ _) (sym (split ∙ ap (λ l. done ++ l) empty ∙ append-nil done)) appended

pub returns-in_err-count-clause-torn : goal.returns-in_err-count-clause-torn
returns-in_err-count-clause-torn g c =
    let (done, split, appended, silent) = c.loop.invariant in
    OnErr-whatever _ (Appends-Keeps_front _ _ _ _ done c.loop.rest.now split appended c.in_err-count.ensures.bytes)

pub returns-clause-torn : goal.returns-clause-torn
returns-clause-torn g c =
    let (done, split, appended, silent) = c.loop.invariant in
    Appends-take_of_done _ _ _ done c.loop.rest.now split appended

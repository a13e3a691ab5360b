use Rattle.std.proofs.Common.{◌∙◌, ◌≤◌, ◌+◌, ◌++◌, ◌∷◌, ap, arith, drop, length, sym, refl}
use Rattle.iv_journal.specs.Journal.{body_of}
use Rattle.iv_journal.proofs.RecordEnds.{IsOn-start, Begins-at_end, Begins-BeginsNoLine, IsOn-next, le-line, le-lines}
use Rattle.iv_journal.proofs.reading.read_journal.Goals as goal

pub loop-init : goal.loop-init
loop-init c = record { on = IsOn-start _ _ _ c.new-lines.ensures.items refl refl refl; steps = omega arith }

pub reading_of-requires-clause-at : goal.reading_of-requires-clause-at
reading_of-requires-clause-at c = c.loop.invariant.on.ended

pub reading_of-requires-clause-end : goal.reading_of-requires-clause-end
reading_of-requires-clause-end c = c.loop.invariant.on.kept

pub returns-in_default-clause-reading : goal.returns-in_default-clause-reading
returns-in_default-clause-reading c = c.reading_of.ensures.reading c.args.bytes.now (Begins-BeginsNoLine _ _ _ _ _ c.loop.invariant.on (c.next_line.ensures.none c.in_default.is))

pub reading_of-requires-2-clause-at : goal.reading_of-requires-2-clause-at
reading_of-requires-2-clause-at c = c.loop.invariant.on.ended

pub reading_of-requires-2-clause-end : goal.reading_of-requires-2-clause-end
reading_of-requires-2-clause-end c = c.loop.invariant.on.kept

pub overflow_add-at : goal.overflow_add-at
overflow_add-at c =
    let f = le-line _ _ _ _ _ _ _ c.loop.invariant.on c.in-Some.ensures.bytes in
    let g = le-lines _ _ _ _ _ c.loop.invariant.on in
    omega (arith, f, g.0)

pub overflow_add-at-in-loop : goal.overflow_add-at-in-loop
overflow_add-at-in-loop c =
    let f = le-line _ _ _ _ _ _ _ c.loop.invariant.on c.in-Some.ensures.bytes in
    omega (arith, f)

pub loop-preserved : goal.loop-preserved
loop-preserved c = record {
  on = IsOn-next _ _ _ _ _ _ _ _ _ _ c.loop.invariant.on
      (record {
        text = c.in-Some.ensures.text;
        bytes = c.in-Some.ensures.bytes ∙ ap (λ z. body_of c.loop.at.digest c.in-Some.found.line ++ 10 ∷ z)
            (ap (λ n. drop n c.loop.rest.now) (sym c.length_of-length.ensures) ∙ sym c.behind-rest.ensures);
        lines = refl;
        length = ap (λ n. c.loop.at.length + n) c.length_of-length.ensures;
        digest = c.in-Some.ensures.digest;
      })
      c.end_of_whole-kept.ensures c.in_ok-push.ensures.items;
  steps = (let s = c.loop.invariant.steps in omega (arith, s));
}

pub returns-clause-reading : goal.returns-clause-reading
returns-clause-reading c =
    let s = c.loop.invariant.steps in
    let past : length c.args.bytes.now ≤ c.loop.at.length = omega (arith, s) in
    c.reading_of-2.ensures.reading c.args.bytes.now (Begins-at_end _ _ _ _ _ c.loop.invariant.on past)

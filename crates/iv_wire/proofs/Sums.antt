-- The text of an answer is that of a run's lines, and they add up.
use Rattle.std.proofs.Common.{ℕ, List, [], ◌∷◌, ◌++◌, Option, Some, None, sym, subst, append_assoc}
use Rattle.std.specs.Prelude.{flat_map, IfSome, OnOk, Result, Ok, Err}
use Rattle.iv_machine.specs.Act.{Line}
use Rattle.iv_machine.specs.Machine.{run, step}
use Rattle.iv_machine.specs.Reached.{AreNumbersUnique}
use Rattle.iv_machine.specs.State.{State}
use Rattle.iv_machine.proofs.RunSums.{AddsUp-run, AreNumbersUnique-run}
use Rattle.iv_engine.specs.Engine.{Engine, IsBehind}
use Rattle.iv_request.specs.Reading.{Reading, faulty, asked}
use Rattle.iv_lines.specs.Answer.{heard, commands_of, text_answered}
use Rattle.iv_wire.specs.Endings.{Run, Answers, IsAnswered}
use Rattle.iv_lines.specs.declared.lines.End.{End}
use Rattle.iv_lines.specs.declared.lines.RunFault.{RunFault}
use Rattle.iv_wire.specs.Sums as sums
use Rattle.iv_wire.specs.Sums.{HasWritten, IsTextOf}
use Rattle.iv_lines.specs.Texts.{line_text}

texts_follow : (ls ms : List Line) (text : List ℕ) → IsTextOf ms text → IsTextOf (ls ++ ms) (flat_map line_text ls ++ text)
texts_follow [] ms text h = h
texts_follow (l ∷ ls) ms text h = subst (λ (v : List ℕ). IsTextOf (l ∷ (ls ++ ms)) v) (sym (append_assoc (line_text l) (flat_map line_text ls) text)) (sums.line l (texts_follow ls ms text h))

pub IsTextOf-run : (s : State) (rs : List Reading) → IsTextOf (run s (commands_of rs)).lines (text_answered s rs)
IsTextOf-run s [] = sums.nothing
IsTextOf-run s (faulty n ∷ rs) = sums.fault n (IsTextOf-run s rs)
IsTextOf-run s (asked c ∷ rs) = let one = step s c in texts_follow one.lines (run one.state (commands_of rs)).lines (text_answered one.state rs) (IsTextOf-run one.state rs)

-- ---- what a run has written

written_ok : (s : State) (left : Option (List ℕ)) (r : Run) (end : End) → Answers s left r (Ok end) → AreNumbersUnique s.frame → IfSome left (λ _. HasWritten s r)
written_ok s None r end h p = tt
written_ok s (Some bytes) r end h p =
    let rs = (heard r.lines bytes).readings in
    record {
      commands = commands_of rs;
      text = text_answered s rs;
      behind = h.1;
      numbers = AreNumbersUnique-run s (commands_of rs) p;
      written = h.0;
      texts = IsTextOf-run s rs;
      sums = AddsUp-run s (commands_of rs) p;
    }

pub HasWritten-IsAnswered : (first : Engine) (r : Run) (result : Result End RunFault) → AreNumbersUnique first.frame → ((s : State) → IsBehind s first → IsAnswered s r result) → OnOk result ((s : State) → IsBehind s first → IfSome r.given (λ _. HasWritten s r))
HasWritten-IsAnswered first r (Ok end) p h = λ s b. written_ok s r.given r end (h s b) (subst AreNumbersUnique (sym b.frame) p)
HasWritten-IsAnswered first r (Err e) p h = tt

-- Commands behind commands.
use Rattle.std.proofs.Common.{◌≡◌, if◌then◌else◌, ℕ, ◌+◌, ◌≤◌, List, [], ◌∷◌, ◌++◌, length, length-append, Bool, true, false, refl, subst, arith}
use Rattle.std.proofs.lemmas.List.Elements.{All-append, All-cons, All-nil}
use Rattle.std.specs.List.{All}
use Rattle.iv_machine.specs.Act.{Command}
use Rattle.iv_machine.specs.Machine.{run, step}
use Rattle.iv_machine.specs.State.{State}
use Rattle.iv_machine.specs.Stored.{IsGiven}
use Rattle.iv_machine.proofs.SoundRuns.{IsSoundWhole-run}
use Rattle.iv_engine.specs.Engine.{Engine, IsBehind}
use Rattle.iv_engine.specs.Sound.{IsSoundEngine}
use Rattle.iv_engine.proofs.SoundStates.{IsSoundEngine-IsBehind, IsSoundWhole-of_engine}
use Rattle.iv_request.specs.Reading.{Reading, faulty, asked, reading_of}
use Rattle.iv_lines.specs.Answer.{commands_of, readings_of, told}
use Rattle.iv_lines.specs.Cut.{is_blank_line}
use Rattle.iv_wire.specs.Ran.{HasRun}

run_joins : (s : State) (cs ds : List Command) → (run (run s cs).state ds).state ≡ (run s (cs ++ ds)).state
run_joins s [] ds = refl
run_joins s (c ∷ cs) ds = run_joins (step s c).state cs ds

one_at_most : (r : Reading) → length (commands_of (r ∷ [])) ≤ 1
one_at_most (faulty n) = omega arith
one_at_most (asked c) = omega arith

-- a line has one command at most
line_has_one : (line : List ℕ) → length (commands_of (readings_of line)) ≤ 1
line_has_one line = by (is_blank_line line)
  where
    by : (b : Bool) → length (commands_of (if b then [] else reading_of line ∷ [])) ≤ 1
    by true = omega arith
    by false = one_at_most (reading_of line)

pub HasRun-none : (s : State) (e : Engine) → IsBehind s e → HasRun 0 s e
HasRun-none s e b = record { commands = []; most = omega arith; given = All-nil IsGiven; behind = b }

pub HasRun-le : (n lines : ℕ) (s : State) (e : Engine) → n ≤ lines → HasRun n s e → HasRun lines s e
HasRun-le n lines s e le h = record { commands = h.commands; most = omega (arith, le, h.most); given = h.given; behind = h.behind }

-- and one line more
pub HasRun-next : (n : ℕ) (line : List ℕ) (s : State) (old new : Engine) → HasRun n s old → All IsGiven (commands_of (readings_of line)) → ((t : State) → IsBehind t old → IsBehind (told t (readings_of line)).state new) → HasRun (n + 1) s new
HasRun-next n line s old new h g f =
    let more = commands_of (readings_of line) in
    record {
      commands = h.commands ++ more;
      most = omega (arith, h.most, line_has_one line, length-append h.commands more);
      given = All-append IsGiven h.commands more h.given g;
      behind = subst (λ (t : State). IsBehind t new) (run_joins s h.commands more) (f (run s h.commands).state h.behind);
    }

-- ---- the commands of a line

-- none, where it asks for none
pub none_given : (line : List ℕ) (n : ℕ) → is_blank_line line ≡ false → reading_of line ≡ faulty n → All IsGiven (commands_of (readings_of line))
none_given line n b h = rw (b, h) (All-nil IsGiven)

pub blank_given : (line : List ℕ) → is_blank_line line ≡ true → All IsGiven (commands_of (readings_of line))
blank_given line b = rw b (All-nil IsGiven)

pub one_given : (line : List ℕ) (c : Command) → is_blank_line line ≡ false → reading_of line ≡ asked c → IsGiven c → All IsGiven (commands_of (readings_of line))
one_given line c b h g = rw (b, h) (All-cons IsGiven c [] g (All-nil IsGiven))

-- ---- a run keeps what is sound

pub IsSoundEngine-HasRun : (lines : ℕ) (old new : Engine) → ((s : State) → IsBehind s old → HasRun lines s new) → IsSoundEngine old → IsSoundEngine new
IsSoundEngine-HasRun lines old new f h = let r = f h.state h.behind in
    IsSoundEngine-IsBehind (run h.state r.commands).state new r.behind (IsSoundWhole-run h.state r.commands r.given (IsSoundWhole-of_engine old h))

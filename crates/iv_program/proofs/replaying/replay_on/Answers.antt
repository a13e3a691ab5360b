use Rattle.iv_machine.specs.State.{start}
use Rattle.iv_lines.specs.declared.lines.RunFault.TheVariants as run
use Rattle.iv_program.proofs.Endings.{IsAnswered-Err}
use Rattle.iv_program.proofs.replaying.replay_on.Goals as goal

pub returns-in-Ok-clause-answers : goal.returns-in-Ok-clause-answers
returns-in-Ok-clause-answers g c = λ cap behind. (c.run.new.engine, (_, c.in-Ok.ensures.answered (start cap) behind))

pub returns-in-Ok-clause-adds_up : goal.returns-in-Ok-clause-adds_up
returns-in-Ok-clause-adds_up g c = λ cap behind. (c.run.new.engine, c.in-Ok.ensures.adds_up (start cap) behind)

pub returns-in-Err-Read-clause-answers : goal.returns-in-Err-Read-clause-answers
returns-in-Err-Read-clause-answers g c = λ cap behind. IsAnswered-Err cap _ run.Read _ _ _ _ _ _ c.in-Err-Read.field-0-is (c.in-Err-Read.ensures.answered (start cap) behind)

pub returns-in-Err-Write-clause-answers : goal.returns-in-Err-Write-clause-answers
returns-in-Err-Write-clause-answers g c = λ cap behind. IsAnswered-Err cap _ run.Write _ _ _ _ _ _ c.in-Err-Write.field-0-is (c.in-Err-Write.ensures.answered (start cap) behind)

pub returns-in-Err-Memory-clause-answers : goal.returns-in-Err-Memory-clause-answers
returns-in-Err-Memory-clause-answers g c = λ cap behind. IsAnswered-Err cap _ run.Memory _ _ _ _ _ _ c.in-Err-Memory.field-0-is (c.in-Err-Memory.ensures.answered (start cap) behind)

pub returns-in-Ok-clause-read : goal.returns-in-Ok-clause-read
returns-in-Ok-clause-read g c = c.in-Ok.ensures.read

pub returns-in-Ok-clause-write : goal.returns-in-Ok-clause-write
returns-in-Ok-clause-write g c = c.in-Ok.ensures.write

pub returns-in-Ok-clause-flushed : goal.returns-in-Ok-clause-flushed
returns-in-Ok-clause-flushed g c = c.in-Ok.ensures.flushed

pub returns-in-Ok-clause-reads : goal.returns-in-Ok-clause-reads
returns-in-Ok-clause-reads g c = c.in-Ok.ensures.reads

pub returns-in-Err-Read-clause-read : goal.returns-in-Err-Read-clause-read
returns-in-Err-Read-clause-read g c = rw c.in-Err-Read.field-0-is at c.in-Err-Read.ensures.read

pub returns-in-Err-Read-clause-write : goal.returns-in-Err-Read-clause-write
returns-in-Err-Read-clause-write g c = rw c.in-Err-Read.field-0-is at c.in-Err-Read.ensures.write

pub returns-in-Err-Read-clause-flushed : goal.returns-in-Err-Read-clause-flushed
returns-in-Err-Read-clause-flushed g c = rw c.in-Err-Read.field-0-is at c.in-Err-Read.ensures.flushed

pub returns-in-Err-Read-clause-reads : goal.returns-in-Err-Read-clause-reads
returns-in-Err-Read-clause-reads g c = c.in-Err-Read.ensures.reads

pub returns-in-Err-Write-clause-read : goal.returns-in-Err-Write-clause-read
returns-in-Err-Write-clause-read g c = rw c.in-Err-Write.field-0-is at c.in-Err-Write.ensures.read

pub returns-in-Err-Write-clause-write : goal.returns-in-Err-Write-clause-write
returns-in-Err-Write-clause-write g c = rw c.in-Err-Write.field-0-is at c.in-Err-Write.ensures.write

pub returns-in-Err-Write-clause-flushed : goal.returns-in-Err-Write-clause-flushed
returns-in-Err-Write-clause-flushed g c = rw c.in-Err-Write.field-0-is at c.in-Err-Write.ensures.flushed

pub returns-in-Err-Write-clause-reads : goal.returns-in-Err-Write-clause-reads
returns-in-Err-Write-clause-reads g c = c.in-Err-Write.ensures.reads

pub returns-in-Err-Memory-clause-read : goal.returns-in-Err-Memory-clause-read
returns-in-Err-Memory-clause-read g c = rw c.in-Err-Memory.field-0-is at c.in-Err-Memory.ensures.read

pub returns-in-Err-Memory-clause-write : goal.returns-in-Err-Memory-clause-write
returns-in-Err-Memory-clause-write g c = rw c.in-Err-Memory.field-0-is at c.in-Err-Memory.ensures.write

pub returns-in-Err-Memory-clause-flushed : goal.returns-in-Err-Memory-clause-flushed
returns-in-Err-Memory-clause-flushed g c = rw c.in-Err-Memory.field-0-is at c.in-Err-Memory.ensures.flushed

pub returns-in-Err-Memory-clause-reads : goal.returns-in-Err-Memory-clause-reads
returns-in-Err-Memory-clause-reads g c = c.in-Err-Memory.ensures.reads

pub returns-in-Ok-clause-turns : goal.returns-in-Ok-clause-turns
returns-in-Ok-clause-turns g c = λ f cap behind. c.in-Ok.ensures.turns f (start cap) behind

pub returns-in-Err-Read-clause-turns : goal.returns-in-Err-Read-clause-turns
returns-in-Err-Read-clause-turns g c = λ f cap behind. c.in-Err-Read.ensures.turns f (start cap) behind

pub returns-in-Err-Write-clause-turns : goal.returns-in-Err-Write-clause-turns
returns-in-Err-Write-clause-turns g c = λ f cap behind. c.in-Err-Write.ensures.turns f (start cap) behind

pub returns-in-Err-Memory-clause-turns : goal.returns-in-Err-Memory-clause-turns
returns-in-Err-Memory-clause-turns g c = λ f cap behind. c.in-Err-Memory.ensures.turns f (start cap) behind

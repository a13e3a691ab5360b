-- For contracts of the code: what a text says.
use Rattle.std.specs.Prelude.{◌≡◌}
use Rattle.iv_access.specs.Rights.{Name}
use Rattle.iv_machine.specs.Act.{Line}
use Rattle.iv_hall.specs.Hearing.{text_as}
use Rattle.iv_hall.specs.declared.hearing.Said.{Said}

-- it is the line's text for its number
abbrev pub IsSaying : Name → Line → Said → Type 0
IsSaying rel l x = x.text.items ≡ text_as rel l x.own

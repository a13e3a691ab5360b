-- What a function answers, against what the rules say.
use Rattle.std.specs.Prelude.{◌≡◌, Result, Ok, Err}
use Rattle.iv_query.specs.declared.fault.Fault.{Fault}
use Rattle.iv_query.specs.declared.fault.QueryFault.{QueryFault}
use Rattle.iv_query.specs.declared.fault.QueryFault.TheVariants as faults

abbrev pub at : Fault → QueryFault
at f = faults.At f.place f.why

-- What a function returned, seen by view, is what reading gives, unless memory ran out.
abbrev pub Fails : {Y : Type 0} → QueryFault → Result Y Fault → Type 0
Fails faults.Memory read = Unit {0}
Fails (faults.At p w) read = read ≡ Err (record { place = p; why = w })

abbrev pub Gives : {X Y : Type 0} → (X → Y) → Result X QueryFault → Result Y Fault → Type 0
Gives view (Ok x) read = read ≡ Ok (view x)
Gives view (Err e) read = Fails e read

abbrev pub IfAt : QueryFault → (Fault → Type 0) → Type 0
IfAt faults.Memory P = Unit {0}
IfAt (faults.At p w) P = P (record { place = p; why = w })

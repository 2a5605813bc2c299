-- `put` meets its contract: what was read of a datagram that the trunk carries is written as its written form (`read-written`).
use Prim.Native.Nat.{ℕ, ◌+◌, ◌-◌, ◌≤◌}
use mathlib.Core.List.{List}
use mathlib.Core.Path.{◌≡◌, sym, ap, ap₂, ◌∙◌}
use lib.ListN.{length, take, drop}
use native.Mathlib.Nat.{add-sub_cancel_left}
use native.Mathlib.Omega.{arith}
use Rattle.std.specs.Prelude.{is_some}
use Rattle.pdu.specs.Numbers.{body_start}
use Rattle.pdu.specs.Tables.{signal_size}
use Rattle.pdu.specs.Reading.{reading}
use Rattle.pdu.specs.Writing.{output_after}
use Rattle.pdu.specs.declared.Reading.{Reading}
use Rattle.pdu.proofs.ReadLaws.{read-written, body_there}
use Rattle.trunk.specs.Kinds.{longest_pdu}
use Rattle.trunk.proofs.WriteLaws.{carried-size}
use Rattle.trunk.proofs.near_end.Carried.put.Goals as goal

pub slice_bounds-write_signal-end : goal.slice_bounds-write_signal-end
slice_bounds-write_signal-end c =
    let p = c.args.self.now in
    let there = body_there p.datagram.now c.in-Signal.s c.in-Signal.n (sym p.read ∙ c.in-Signal.is) in
    omega (arith, there.0)

pub returns-in-Transmitter : goal.returns-in-Transmitter
returns-in-Transmitter c =
    let p = c.args.self.now in
    let t = c.in-Transmitter.t in
    c.write_transmitter.ensures.output
    ∙ read-written p.datagram.now (Reading.Transmitter t) c.args.out.now tt (sym p.read ∙ c.in-Transmitter.is) (omega arith)

pub returns-in-Signal : goal.returns-in-Signal
returns-in-Signal c =
    let p = c.args.self.now in
    let d : List ℕ = p.datagram.now in
    let n : ℕ = c.from-end.result in
    let out : List ℕ = c.args.out.now in
    let same = ap (Reading.Signal c.in-Signal.s) (sym c.from-end.ensures) in
    let signal-read : reading d ≡ Reading.Signal c.in-Signal.s n = sym p.read ∙ c.in-Signal.is ∙ same in
    let there = body_there d c.in-Signal.s n signal-read in
    let body : take (body_start + n - body_start) (drop body_start d) ≡ take n (drop body_start d) =
    ap (λ (m : ℕ). take m (drop body_start d)) (add-sub_cancel_left body_start n) in
    let long : length (take n (drop body_start d)) ≡ n = ap length (sym there.1) ∙ there.2 in
    let small : signal_size n ≤ longest_pdu = carried-size d c.in-Signal.s n signal-read (ap is_some p.carried) in
    c.write_signal.ensures.output
    ∙ ap₂ (λ (m : ℕ) (b : List ℕ). output_after (Reading.Signal c.in-Signal.s m) b out) (ap length body ∙ long) body
    ∙ read-written d (Reading.Signal c.in-Signal.s n) out tt signal-read (omega arith)

use Rattle.std.proofs.Common.{◌≡◌, ℕ, ◌+◌, ◌-◌, ◌*◌, ◌^◌, ◌<◌, ◌≤◌, get_or, sym, subst, arith, rules}
use Rattle.memory.specs.Bytes.{held, value_at}
use Rattle.memory.specs.Rules.{widest}
use Rattle.memory.proofs.Rows.{value_more, below_more, access_fits}
use Rattle.memory.proofs.bytes.read.Goals as goal

-- the number so far, with one byte more
more : (v x i n : ℕ) → 0 < i → i ≤ n → n ≤ widest → v < 256 ^ (n - i) → x < 256 → v * 256 + x < 2 ^ 32
more v x i n z h l s t =
    let e : i - 1 + 1 ≡ i = omega arith in
    let b = below_more (i - 1) n v x (omega arith) t (subst (λ (k : ℕ). v < 256 ^ (n - k)) (sym e) s) in
    omega (arith, access_fits (n - (i - 1)) (omega arith))

pub overflow_mul-value : goal.overflow_mul-value
overflow_mul-value c =
    let m = more c.loop-i.value 0 c.loop-i.i c.args.size (omega arith) (omega arith) c.requires.few c.loop-i.invariant.1 (omega arith) in
    search rules

pub overflow_add-value-in-loop-i : goal.overflow_add-value-in-loop-i
overflow_add-value-in-loop-i c =
    let x = get_or c.args.bytes.now (c.args.at + (c.loop-i.i - 1)) 0 in
    let f : x < 256 = search rules in
    let m = more c.loop-i.value x c.loop-i.i c.args.size (omega arith) (omega arith) c.requires.few c.loop-i.invariant.1 f in
    search rules

pub loop-i-preserved : goal.loop-i-preserved
loop-i-preserved c =
    let i = c.loop-i.i in
    let e : i - 1 + 1 ≡ i = omega arith in
    let b = held c.args.bytes.now in
    let n = c.args.size in
    let v = c.loop-i.value in
    let f : get_or c.args.bytes.now (c.args.at + (i - 1)) 0 < 256 = search rules in (
      value_more b c.args.at (i - 1) n v (omega arith) (subst (λ (k : ℕ). v ≡ value_at b (c.args.at + k) (n - k)) (sym e) c.loop-i.invariant.0),
      below_more (i - 1) n v _ (omega arith) f (subst (λ (k : ℕ). v < 256 ^ (n - k)) (sym e) c.loop-i.invariant.1),
    )

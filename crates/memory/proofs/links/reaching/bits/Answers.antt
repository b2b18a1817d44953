use Rattle.std.proofs.Common.{◌≡◌, ℕ, ◌+◌, ◌-◌, ◌*◌, ◌^◌, ◌<◌, Bool, true, false, ◌&&◌, ◌||◌, eqb, ltb, sym, subst, arith, pow_pos}
use Rattle.search.specs.Marks.{marked}
use Rattle.memory.specs.Links.{bit}
use Rattle.memory.proofs.Doubling.{digit, bits_more, bits_none, below_more}
use Rattle.memory.proofs.links.reaching.bits.Goals as goal

digit_small : (b : Bool) → digit b < 2
digit_small true = omega arith
digit_small false = omega arith

pub loop-i-init : goal.loop-i-init
loop-i-init c =
    let t : ℕ → Bool = λ j. eqb j c.args.from || marked c.args.marks.now.all.now j in
    (pow_pos (c.args.count - c.args.count), bits_none t c.args.count)

pub loop-i-preserved : goal.loop-i-preserved
loop-i-preserved c =
    let t : ℕ → Bool = λ j. eqb j c.args.from || marked c.args.marks.now.all.now j in
    let n = c.args.count in
    let i : ℕ = c.loop-i.i - 1 in
    let all = c.loop-i.all in
    let back : c.loop-i.i ≡ i + 1 = omega arith in
    let below : all < 2 ^ (n - (i + 1)) = subst (λ (k : ℕ). all < 2 ^ (n - k)) back c.loop-i.invariant.0 in
    let old : (d : ℕ) → bit all d ≡ (ltb (i + 1 + d) n && t (i + 1 + d)) = subst (λ (k : ℕ). (d : ℕ) → bit all d ≡ (ltb (k + d) n && t (k + d))) back c.loop-i.invariant.1 in
    let is : digit (t i) ≡ c.flag.result = sym c.flag.ensures in
    subst (λ (x : ℕ). (all * 2 + x < 2 ^ (n - i)) × ((d : ℕ) → bit (all * 2 + x) d ≡ (ltb (i + d) n && t (i + d)))) is
    (below_more n i all (digit (t i)) (omega arith) (digit_small (t i)) below, bits_more t n i all (omega arith) old)

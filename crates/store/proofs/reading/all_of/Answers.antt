use Rattle.std.specs.Bool.{MatchBool}
use Rattle.std.proofs.Common.{rules, ◌≡◌, ℕ, ◌+◌, ◌<◌, Bool, true, false, sym, refl, arith}
use Rattle.std.proofs.lemmas.Iterator.{cases_from_all, YieldsList-from_range}
use Rattle.store.specs.declared.tags.Kind.{Kind}
use Rattle.store.specs.Cells.{Memory}
use Rattle.store.specs.Reading.{same, all_of}
use Rattle.store.proofs.Ranges.{all_below}
use Rattle.store.proofs.Readings.{each-all, not-all}
use Rattle.store.proofs.reading.all_of.Goals as goal

told : (m : Memory) (k : Kind) (a n : ℕ) (r : Bool)
    → MatchBool r ((j : ℕ) → j < n → same (m (a + j)).kind k ≡ true) ((j : ℕ) × (j < n) × (same (m (a + j)).kind k ≡ false)) → r ≡ all_of m k a n
told m k a n true h = sym (each-all m k a n h)
told m k a n false h = sym (not-all m k a n h.0 h.1 h.2)

pub returns : goal.returns
returns g c =
    let m = g.C.Cells.cells c.args.store.now in
    told m c.args.kind c.args.address c.args.size c.all.result
    (all_below c.args.size c.all.result (λ j. same (m (c.args.address + j)).kind c.args.kind ≡ true) (λ j. same (m (c.args.address + j)).kind c.args.kind ≡ false)
    (cases_from_all _ _ _ (λ j. same (m (c.args.address + j)).kind c.args.kind ≡ true) (λ j. same (m (c.args.address + j)).kind c.args.kind ≡ false) c.all.ensures.ran
    (YieldsList-from_range 0 c.args.size c.args.size refl (omega arith)) (λ x q k. search rules) (λ x q k. search rules)))

use Rattle.std.proofs.Common.{◌≡◌, ℕ, List, Ok, sym, refl, ◌∙◌, subst}
use Rattle.areas.specs.Calls.{opened}
use Rattle.layout.specs.Fields.{count_of}
use Rattle.layout.specs.Placing.{Inside, Laid, laid_cells}
use Rattle.layout.proofs.Answering.{granted_keeps as body_keeps}
use Rattle.memory.specs.Bytes.{Bytes, held}
use Rattle.memory.specs.Import.{Left, imports, laid_bytes}
use Rattle.memory.specs.State.{view}
use Rattle.memory.specs.Tied.{Tied}
use Rattle.memory.proofs.Placed.{all-inside, granted_keeps, with_byte}
use Rattle.memory.proofs.Reaching.{state_is, tied_laid}
use Rattle.memory.proofs.Memory.import.Goals as goal

pub write_fields-requires : goal.write_fields-requires
write_fields-requires g c =
    let s = c.args.self.now in
    let b = c.args.body.now in
    let h = c.in_ok-layout.ensures in
    let keeps = granted_keeps (opened s.areas) b (Ok tt) h.answer.allows refl in
    let inside = all-inside (opened s.areas) b (count_of b) s.areas.apart keeps.1 in
    let l = c.in_ok-layout.layout in
    subst (λ (x : List ℕ). Inside x l.count) (sym h.layout.0) (subst (Inside b) (sym h.layout.1) inside)

pub returns : goal.returns
returns g c =
    let s = view g.S.Cells.cells c.args.self.now in
    let b = c.args.body.now in
    let n = count_of b in
    let h = c.in_ok-layout.ensures in
    let l = c.in_ok-layout.layout in
    let keeps = granted_keeps s.areas b (Ok tt) h.answer.allows refl in
    let inside = all-inside s.areas b n c.args.self.now.areas.apart keeps.1 in
    let bytes : held c.write_fields.new.bytes ≡ laid_bytes s.bytes b n = c.write_fields.ensures ∙ (λ i. laid_bytes s.bytes (h.layout.0 i) (h.layout.1 i)) in
    let cells : g.S.Cells.cells c.place.new.store ≡ laid_cells s.cells b n = c.place.ensures.cells ∙ (λ i. laid_cells s.cells (h.layout.0 i) (h.layout.1 i)) in
    let is = state_is _ (imports s b) bytes cells refl in
    let laid = subst (λ (x : List ℕ). Laid s.cells x (g.S.Cells.cells c.place.new.store)) h.layout.0 c.place.ensures.law keeps.0 inside in
    record {
      answer = h.answer;
      left = is;
      law = λ i. subst (λ (f : Bytes). Left s.bytes s.cells b n i (f i) (g.S.Cells.cells c.place.new.store i)) (sym bytes)
          (with_byte s.bytes b i s.cells n _ (body_keeps b (Ok tt) keeps.0 refl).2 (laid i));
      tied = λ t. subst Tied (sym is) (tied_laid s b n keeps.1 t);
    }

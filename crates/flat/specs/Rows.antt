-- The memory that a row of cells stands for.
use Rattle.std.specs.Prelude.{List, slice_index_or}
use Rattle.store.specs.declared.tags.Cell.{Cell}
use Rattle.store.specs.Cells.{Memory, unallocated}

abbrev pub memory : List Cell → Memory
memory cells i = slice_index_or cells i unallocated

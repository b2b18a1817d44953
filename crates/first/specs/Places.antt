-- Places of equal size behind a head, in a row of bytes.
use Rattle.std.specs.Prelude.{◌≡◌, ℕ, ◌+◌, ◌*◌, ◌<◌, ◌≤◌}

-- a row of so many bytes has its head and n places, 1 to `most` of them, and nothing else
pub record Fills (bytes head size most n : ℕ) : Type 0 where
  pub sized : 0 < size
  pub some : 1 ≤ n
  pub few : n ≤ most
  pub whole : bytes ≡ head + size * n

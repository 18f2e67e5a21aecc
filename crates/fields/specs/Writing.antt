-- What a writer of a slice has written, and what stands behind it.
use Rattle.std.specs.Prelude.{◌≡◌, ◌+◌, ◌++◌, ℕ, List, length, take, drop}
use Rattle.fields.specs.declared.stores.writer.Writer.{Writer}

abbrev pub written : (writer : Writer) → List ℕ
written writer = take writer.at writer.bytes.now

abbrev pub behind : (writer : Writer) → List ℕ
behind writer = drop writer.at writer.bytes.now

-- so many bytes, these, were put behind those that were written; what stands behind them is as it
-- was. Their number is said by itself, so that a chain of puts adds up plain numbers, and not the
-- lengths of what was put
pub record Puts (old new : Writer) (count : ℕ) (bytes : List ℕ) : Type 0 where
  pub same_reference : new.bytes.ghost_name ≡ old.bytes.ghost_name
  pub at : new.at ≡ old.at + count
  pub len : length new.bytes.now ≡ length old.bytes.now
  pub written : written new ≡ written old ++ bytes
  pub behind : behind new ≡ drop count (behind old)

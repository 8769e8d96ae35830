-- `tables::put_original` meets its contract. Assumes nothing.
use Rattle.tables.proofs.put_original.Goals as goal

pub returns : goal.returns
returns c = record {
  keys_after = c.put_keys.ensures;
  heads_after = rw (
    ← c.width_of.ensures,
    ← c.from.ensures,
    ← c.from-2.ensures,
  ) c.put_head.ensures;
}

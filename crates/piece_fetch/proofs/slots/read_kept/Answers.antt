use Rattle.std.proofs.Common.{sym, ◌∙◌, subst}
use Rattle.json_value.specs.declared.tree.Json.TheVariants as json
use Rattle.json_value.specs.Grammar.{IsText, strict}
use Rattle.piece_fetch.proofs.slots.read_kept.Goals as goal

pub memory_of-requires : goal.memory_of-requires
memory_of-requires c = c.in-Err.ensures.only (json.Object c.requires.0) (subst (IsText strict (json.Object c.requires.0)) (sym (c.as_bytes.ensures.value ∙ c.as_str.ensures)) c.requires.1)

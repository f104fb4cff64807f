-- What the check does not find alone.
use Rattle.std.proofs.Common.{rules, sym, ◌∙◌}
use Rattle.deliveries.specs.Delivers.{sent_low, source_none, source_absent, source_is}
use Rattle.deliveries.proofs.servers.is_source.Goals as goal

pub returns-then-n-eq0 : goal.returns-then-n-eq0
returns-then-n-eq0 c = search (source_none, rules) depth 7 fits 4000

pub load_message-requires : goal.load_message-requires
load_message-requires c = sent_low c.requires _ (sym c.if-present.ensures)

pub returns-then-present : goal.returns-then-present
returns-then-present c = c.is.ensures ∙ source_is c.requires _ _ c.if-n-eq0.false (sym c.if-present.ensures) c.load_message.ensures

pub returns-else-present : goal.returns-else-present
returns-else-present c = c.if-present.false ∙ source_absent c.requires _ c.if-n-eq0.false (sym c.if-present.ensures)

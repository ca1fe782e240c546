use Rattle.std.proofs.Common.{◌≡◌, Bool, true, false, sym, ◌∙◌}
use Rattle.gql_tokens.proofs.ScanLoop.{blank_front, mark_front, comment_front, none_front}
use Rattle.gql_tokens.proofs.scanner.ignored_length.Goals as goal

pub returns-then-is_blank-clause-is_ignored : goal.returns-then-is_blank-clause-is_ignored
returns-then-is_blank-clause-is_ignored c = λ _. blank_front _ c.requires (sym c.is_blank.ensures ∙ c.if-is_blank.true)

pub returns-then-has_byte_order_mark-clause-is_ignored : goal.returns-then-has_byte_order_mark-clause-is_ignored
returns-then-has_byte_order_mark-clause-is_ignored c = λ _. let h = c.has_byte_order_mark.ensures.0 c.if-has_byte_order_mark.true in mark_front _ h.0 h.1 h.2 h.3

pub returns-then-bytes-eq35-clause-is_ignored : goal.returns-then-bytes-eq35-clause-is_ignored
returns-then-bytes-eq35-clause-is_ignored c = λ _. comment_front _ _ c.requires c.if-bytes-eq35.true c.inline_length.ensures.every c.inline_length.ensures.stops

differ : {q : Bool} → q ≡ true → q ≡ false → ⊥
differ t f = cc

pub returns-clause-none : goal.returns-clause-none
returns-clause-none c = λ _. none_front _ (sym c.is_blank.ensures ∙ c.if-is_blank.false) (λ h. differ (c.has_byte_order_mark.ensures.1 h) c.if-has_byte_order_mark.false) (λ h. c.if-bytes-eq35.false h)

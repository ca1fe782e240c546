use Rattle.std.proofs.Common.{◌∙◌, ap, ◌++◌, codes, length}
use Rattle.std.specs.Fmt.{decimal}
use Rattle.http_wire.specs.Writing.{status_line, field_line, optional_line, close_line}
use Rattle.http_wire.proofs.write.write_message.Goals as goal

pub returns : goal.returns
returns c =
    let r = c.args.response.now in
    let e1 = c.in_ok-put_status.ensures ∙ ap (λ o. o ++ status_line r.status) c.new-out.ensures.items in
    let e2 = c.in_ok-put_field.ensures ∙ ap (λ o. o ++ field_line (codes "content-type") (codes "application/json")) e1 in
    let e3 = c.in_ok-put_length.ensures ∙ ap (λ n. c.put_field.new.out.items ++ field_line (codes "content-length") (decimal n)) c.len.ensures ∙ ap (λ o. o ++ field_line (codes "content-length") (decimal (length r.body))) e2 in
    let e4 = c.in_ok-put_optional.ensures ∙ ap (λ o. o ++ optional_line (codes "allow") r.allow) e3 in
    let e5 = c.in_ok-put_optional-2.ensures ∙ ap (λ o. o ++ optional_line (codes "cache-control") r.cache_control) e4 in
    let e6 = c.in_ok-put_close.ensures ∙ ap (λ o. o ++ close_line r.close) e5 in
    let e7 = c.in_ok-extend_from_slice.ensures.items ∙ ap (λ o. o ++ codes "\r\n") e6 in
    let text = c.as_bytes.ensures.value ∙ c.as_str.ensures in
    c.from_vec.ensures ∙ c.in_ok-extend_from_slice-2.ensures.items ∙ ap (λ b. c.extend_from_slice.new.self.items ++ b) text ∙ ap (λ o. o ++ r.body) e7

use Rattle.std.proofs.Common.{◌∙◌, ap, ◌++◌, codes, length}
use Rattle.std.specs.Fmt.{decimal}
use Rattle.http_wire.specs.Writing.{field_line, id_line}
use Rattle.http_wire.proofs.write.write_call.Goals as goal

pub returns : goal.returns
returns c =
    let json = field_line (codes "content-type") (codes "application/json") in
    let e1 = c.in_ok-extend_from_slice.ensures.items ∙ ap (λ o. o ++ codes "POST ") c.new-out.ensures.items in
    let e2 = c.in_ok-extend_from_slice-2.ensures.items ∙ ap (λ b. c.extend_from_slice.new.self.items ++ b) c.as_bytes.ensures.value ∙ ap (λ o. o ++ c.args.path.now) e1 in
    let e3 = c.in_ok-extend_from_slice-3.ensures.items ∙ ap (λ o. o ++ codes " HTTP/1.1\r\n") e2 in
    let e4 = c.in_ok-put_field.ensures ∙ ap (λ b. c.extend_from_slice-3.new.self.items ++ field_line (codes "host") b) c.as_bytes-2.ensures.value ∙ ap (λ o. o ++ field_line (codes "host") c.args.host.now) e3 in
    let e5 = c.in_ok-put_field-2.ensures ∙ ap (λ o. o ++ json) e4 in
    let e6 = c.in_ok-put_field-3.ensures ∙ ap (λ o. o ++ field_line (codes "accept") (codes "application/json")) e5 in
    let e7 = c.in_ok-put_id.ensures ∙ ap (λ o. o ++ id_line c.args.id.now) e6 in
    let e8 = c.in_ok-put_length.ensures ∙ ap (λ o. o ++ field_line (codes "content-length") (decimal (length c.args.body.now))) e7 in
    let e9 = c.in_ok-put_field-4.ensures ∙ ap (λ o. o ++ field_line (codes "connection") (codes "close")) e8 in
    let e10 = c.in_ok-extend_from_slice-4.ensures.items ∙ ap (λ o. o ++ codes "\r\n") e9 in
    c.from_vec.ensures ∙ c.in_ok-extend_from_slice-5.ensures.items ∙ ap (λ o. o ++ c.args.body.now) e10

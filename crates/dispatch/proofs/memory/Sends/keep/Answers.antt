use Rattle.std.proofs.Common.{List, ap, arith, length, ◌≡◌, ◌++◌, ◌∷◌, ◌∙◌, [], ℕ}
use Rattle.dispatch.specs.declared.memory.Extent.{Extent}
use Rattle.dispatch.specs.Device.{Sent}
use Rattle.dispatch.specs.Memory.{SendsValue, sent_in}
use Rattle.dispatch.proofs.MemoryLemmas.{items_kept, sent_in-more}
use Rattle.dispatch.proofs.memory.Sends.keep.Goals as goal

pub returns-clause-kept : goal.returns-clause-kept
returns-clause-kept c = λ _.
    let self = c.self.inside in let bytes = c.args.bytes.now in
    let room = c.if-capacity-len.false in let room_for_bytes = c.if-capacity-len-2.false in
    let longer : c.extend_from_slice.new.self.items ≡ self.bytes.items ++ bytes = items_kept c.extend_from_slice.result c.extend_from_slice.new.self.items (self.bytes.items ++ bytes) self.bytes.items
    (c.extend_from_slice.ensures.succeeds (let n = c.len-2.ensures in let m = c.capacity-2.ensures in let fits = self.bytes.ok in omega arith)) c.extend_from_slice.ensures.items in
    let one_more = items_kept c.push.result c.push.new.self.items (self.extents.items ++ record { to = c.args.to; len = length bytes } ∷ []) self.extents.items
    (c.push.ensures.succeeds (let n = c.len.ensures in let m = c.capacity.ensures in omega arith)) c.push.ensures.items in
    ap (λ (extents : List Extent). record { sent = sent_in extents c.extend_from_slice.new.self.items; failures = self.failures }) one_more
    ∙ (ap (λ (all : List ℕ). record { sent = sent_in (self.extents.items ++ record { to = c.args.to; len = length bytes } ∷ []) all; failures = self.failures }) longer
    ∙ (ap (λ (sent : List Sent). record { sent = sent; failures = self.failures }) (sent_in-more self.extents.items self.bytes.items bytes c.args.to c.self.invariant)
    ∙ ap (λ (view : SendsValue). record { sent = view.sent ++ record { to = c.args.to; bytes = bytes } ∷ []; failures = view.failures }) c.self.view_is))

-- The links, then the room; then the root is written, or nothing changes.
use native.Mathlib.Omega.{arith}
use Rattle.tables.proofs.Branches.{handed}
use Rattle.text_xml_out.proofs.Promise.{linkable, nested, root_writable, root-written, room_refused}
use Rattle.text_xml_out.proofs.write_linked.Goals as goal

pub link-requires : goal.link-requires
link-requires c = linkable c.args.t.now c.requires (λ i. omega (arith, c.shared_slice_known-1.given i))

pub tree_bytes-requires : goal.tree_bytes-requires
tree_bytes-requires c = nested c.args.t.now c.requires (λ i. omega (arith, c.shared_slice_known-1.given i)) c.link.ensures

pub put_node-requires : goal.put_node-requires
put_node-requires c = root_writable c.args.t.now c.requires (λ i. omega (arith, c.shared_slice_known-1.given i)) c.args.out.now c.tree_bytes.ensures c.output.ensures c.in_ok-output.was c.link.ensures

pub returns : goal.returns
returns c = root-written c.args.t.now c.requires (λ i. omega (arith, c.shared_slice_known-1.given i)) c.args.out.now c.tree_bytes.ensures c.output.ensures c.in_ok-output.was c.put_node.ensures

pub returns-in_err-output : goal.returns-in_err-output
returns-in_err-output c = rw (handed c.from_residual.ensures) (room_refused c.args.t.now c.requires (λ i. omega (arith, c.shared_slice_known-1.given i)) c.args.out.now c.tree_bytes.ensures c.output.ensures c.in_err-output.was)

use Rattle.sample_planes.proofs.LayoutLemmas.{shifted_long}
use Rattle.sample_planes.proofs.FirstPlaces.{first_bytes, first_tops, tops_long}
use Rattle.sample_planes.proofs.FirstPlaces.{shifts_fit, near_by, narrow}
use Rattle.sample_planes.proofs.layout.WordLayout.new.Goals as goal

pub overflow_shr-result-2 : goal.overflow_shr-result-2
overflow_shr-result-2 c = shifts_fit c.first_places-places.result

pub invariant_of-result : goal.invariant_of-result
invariant_of-result c =
    let places = c.first_places-places.result in
    let e = c.first_places-places.ensures in
    record {
      few = narrow c.args.width c.requires.width;
      lanes = (shifted_long places 3 e.long, tops_long places e.long);
      near = λ k h. rw (first_bytes c.args.width c.args.start places e.long e.places k h)
          (near_by c.args.width c.args.start k c.requires.width c.requires.start);
    }

pub returns : goal.returns
returns c =
    let places = c.first_places-places.result in
    let e = c.first_places-places.ensures in
    record {
      is_width = c.requires.width;
      width_is = λ i. c.args.width;
      bytes = first_bytes c.args.width c.args.start places e.long e.places;
      tops = first_tops c.args.width c.args.start places e.long e.places;
    }

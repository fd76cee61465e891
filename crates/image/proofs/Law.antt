-- The law of the format. Assumes nothing.
use Rattle.std.proofs.Common.{◌≡◌, ℕ, zero, suc, ◌+◌, ◌-◌, ◌*◌, ◌/◌, ◌%◌, ◌<◌, ◌≤◌, Bool, true, false, cond, ◌⊎◌, List, [], ◌∷◌, ◌++◌, map, length, get_or, drop, Ok, Err, Result, sym, refl, ap, ◌∙◌, subst, inl, inr, append_assoc, arith, length-append}
use Rattle.std.proofs.lemmas.Nat.{div-mul-add, mod-mul-add, div-add-mod'}
use Rattle.std.proofs.lemmas.List.{take_at, drop_at}
use Rattle.std.proofs.lemmas.Bool.{le-leb, lt-leb, cond-true, cond-false}
use Rattle.std.proofs.lemmas.Bool.Decides.{nat_tests}
use Rattle.std.specs.List.{flat_map}
use Rattle.image.specs.declared.refusal.Reason.{Reason}
use Rattle.image.specs.declared.refusal.Refusal.{Refusal}
use Rattle.image.specs.Format.{framed, Follows, Begins, Image, Wrong, Stops, Bytes, Law}
use Rattle.image.specs.Records.{Item, is_start, record_of}
use Rattle.image.specs.Reading.{Place, Step, one, end, refused, fault, taken, ended, unstarted, step, more, after, walk, walked, begin, from, records}
use Rattle.image.proofs.Steps.{Taken, says, begins, framed as frames, unfolds}

-- the records from p up to q
record Trail (p : Place) (items : List Item) (q : Place) : Type 0 where
  bodies : List (List ℕ)
  whole : p.rest ≡ flat_map framed bodies ++ q.rest
  means : map record_of bodies ≡ map Ok items
  order : Follows items p.started q.started
  size : q.size ≡ p.size

-- what is read from p on, and where that ends
abbrev Ending : Place → Result (List Item) Refusal → Type 0
Ending p (Ok items) = (q : Place) × (last : Place) × Trail p items q × (end last ≡ step q)
Ending p (Err x) = (q : Place) × (last : Place) × (items : List Item) × Trail p items q × (refused x last ≡ step q)

framed_is : (high low : ℕ) (bs : List ℕ) → low < 256 → length bs ≡ high * 256 + low → high ∷ low ∷ bs ≡ framed bs
framed_is high low bs h e =
    let up : high ≡ length bs / 256 = sym (div-mul-add high 256 low h) ∙ ap (λ n. n / 256) (sym e) in
    let down : low ≡ length bs % 256 = sym (mod-mul-add high 256 low h) ∙ ap (λ n. n % 256) (sym e) in
    cc

-- bytes without their front are bytes
bytes_after : (front bs : List ℕ) → Bytes (front ++ bs) → Bytes bs
bytes_after [] bs h k = h k
bytes_after (b ∷ front) bs h k = bytes_after front bs (λ j. h (suc j)) k

none : (p : Place) → Trail p [] p
none p = record { bodies = []; whole = refl; means = refl; order = refl; size = refl }

module _ (p : Place) (i : Item) (q : Place) (b : Bytes p.rest) (t : Taken p i q) where
  bytes : Bytes (t.high ∷ t.low ∷ (t.body ++ q.rest))
  bytes = subst Bytes t.front b

  later_bytes : Bytes q.rest
  later_bytes = bytes_after t.body q.rest (λ k. bytes (suc (suc k)))

  one_more : (items : List Item) (z : Place) → Trail q items z → Trail p (i ∷ items) z
  one_more items z r =
      record {
        bodies = t.body ∷ r.bodies;
        whole =
            t.front
            ∙ ap (λ l. t.high ∷ t.low ∷ (t.body ++ l)) r.whole
            ∙ ap (λ l. l ++ (flat_map framed r.bodies ++ z.rest)) (framed_is t.high t.low t.body (bytes 1) t.counts)
            ∙ sym (append_assoc (framed t.body) (flat_map framed r.bodies) z.rest);
        means = let first = t.means in let others = r.means in cc;
        order = subst (λ s. Follows (i ∷ items) s z.started) (sym t.before) (subst (λ s. Follows items s z.started) t.started r.order);
        size = r.size ∙ t.size;
      }

  goes_on : (r : Result (List Item) Refusal) → Ending q r → Ending p (more i r)
  goes_on (Ok items) h = (h.0, h.1, one_more items h.0 h.2, h.3)
  goes_on (Err x) h = (h.0, h.1, i ∷ h.2, one_more h.2 h.0 h.3, h.4)

ending_at : (p : Place) (go : Place → Result (List Item) Refusal) (s : Step) → Bytes p.rest → ((q : Place) → length q.rest < length p.rest → Bytes q.rest → Ending q (go q)) → s ≡ step p → Ending p (after go s)
ending_at p go (one i q) b later e =
    let t = says p (one i q) e in
    goes_on p i q b t (go q) (later q (omega (arith, ap length t.front, length-append t.body q.rest)) (later_bytes p i q b t))
ending_at p go (end q) b later e = (p, q, none p, e)
ending_at p go (refused x q) b later e = (p, q, [], none p, e)

ending : (n : ℕ) (p : Place) → length p.rest < n → Bytes p.rest → Ending p (walk n p)
unfolding walk
ending zero p h b = absurd (omega arith)
ending (suc n) p h b = ending_at p (walk n) (step p) b (λ q less c. ending n q (omega arith) c) refl

-- what an image begins with
record Begun (image : List ℕ) (p : Place) : Type 0 where
  first : image ≡ 1 ∷ p.rest
  small : length image ≤ 65535
  fresh : p.started ≡ false
  size : p.size ≡ length image

begun : (image : List ℕ) (p : Place) → begin image ≡ Ok p → Begun image p
begun [] p e = absurd (grind (arith, nat_tests))
begun (version ∷ rest) p e =
    let one : version ≡ 1 = grind (arith, nat_tests) in
    let left : rest ≡ p.rest = grind (arith, nat_tests) in
    record { first = cc; small = grind (arith, nat_tests); fresh = grind (arith, nat_tests); size = grind (arith, nat_tests) }

module _ (image : List ℕ) (p : Place) (h : Begun image p) where
  up_to : (items : List Item) (q : Place) → Trail p items q → Begins image items q.started q.rest
  up_to items q t = record { bodies = t.bodies; whole = h.first ∙ ap (λ l. 1 ∷ l) t.whole; small = h.small; means = t.means; order = subst (λ s. Follows items s q.started) h.fresh t.order }

  ends : (items : List Item) → Ending p (Ok items) → Image image items
  ends items w =
      let at-end = says w.0 (end w.1) w.3 in
      let b = up_to items w.0 w.2 in
      subst (λ z. Begins image items z []) at-end.0 (subst (Begins image items w.0.started) at-end.1 b)

  stopped : (x : Refusal) → Ending p (Err x) → Stops image x
  stopped x w =
      let q = w.0 in
      let t = w.3 in
      let at-fault = says q (refused x w.1) w.4 in
      let long = ap length (h.first ∙ ap (λ l. 1 ∷ l) t.whole) in
      record {
        items = w.2;
        started = q.started;
        tail = q.rest;
        front = up_to w.2 q t;
        wrong = at-fault.0;
        place = omega (arith, at-fault.1, t.size, h.size, long, length-append (flat_map framed t.bodies) q.rest);
      }

  all_read : Bytes image → Ending p (walked p)
  all_read b = ending (suc (length p.rest)) p (omega arith) (λ k. subst Bytes h.first b (suc k))

sound-from : (image : List ℕ) (items : List Item) (r : Result Place Refusal) → begin image ≡ r → Bytes image → from r ≡ Ok items → Image image items
sound-from image items (Ok p) s b e = let h = begun image p s in ends image p h items (subst (Ending p) e (all_read image p h b))
sound-from image items (Err x) s b e = absurd (grind (arith, nat_tests))

refuses-from : (image : List ℕ) (x : Refusal) (r : Result Place Refusal) → begin image ≡ r → Bytes image → from r ≡ Err x → (begin image ≡ Err x) ⊎ Stops image x
refuses-from image x (Ok p) s b e = let h = begun image p s in inr (stopped image p h x (subst (Ending p) e (all_read image p h b)))
refuses-from image x (Err y) s b e = inl (s ∙ cc)

-- some records before what is read
abbrev mores : List Item → Result (List Item) Refusal → Result (List Item) Refusal
mores [] r = r
mores (i ∷ is) r = more i (mores is r)

mores_ok : (items : List Item) → mores items (Ok []) ≡ Ok items
mores_ok [] = refl
mores_ok (i ∷ is) = ap (more i) (mores_ok is)

mores_err : (items : List Item) (x : Refusal) → mores items (Err x) ≡ Err x
mores_err [] x = refl
mores_err (i ∷ is) x = ap (more i) (mores_err is x)

steps : (p : Place) (b rest : List ℕ) (i : Item) → p.rest ≡ framed b ++ rest → p.started ≡ false → record_of b ≡ Ok i → step p ≡ one i (record { rest = rest; size = p.size; started = is_start i })
steps p b rest i w on m =
    let n : length b / 256 * 256 + length b % 256 ≡ length b = div-add-mod' (length b) 256 in
    let q : Place = record { rest = framed b ++ rest; size = p.size; started = false } in
    let same : p ≡ q = λ j. record { rest = w j; size = p.size; started = on j } in
    ap step same ∙ frames q (Ok i) (b ++ rest) b (length b) refl (omega arith) refl (sym n) (omega (arith, length-append b rest)) (sym (take_at b rest (length b) refl)) (sym m)
    ∙ ap (λ r. one i (record { rest = r; size = p.size; started = is_start i })) (drop_at b rest (length b) refl)

follows_first : (b z : Bool) (i : Item) (is : List Item) → Follows (i ∷ is) b z → (b ≡ false) × Follows is (is_start i) z
follows_first true z i is o = absurd o
follows_first false z i is o = (refl, o)

trail_read : (items : List Item) (bodies : List (List ℕ)) (p q : Place) → p.rest ≡ flat_map framed bodies ++ q.rest → map record_of bodies ≡ map Ok items → Follows items p.started q.started → q.size ≡ p.size → walked p ≡ mores items (walked q)
trail_read [] [] p q w m o s = ap walked (λ j. record { rest = w j; size = sym s j; started = o j })
trail_read [] (b ∷ bs) p q w m o s = absurd (grind (arith, nat_tests))
trail_read (i ∷ is) [] p q w m o s = absurd (grind (arith, nat_tests))
trail_read (i ∷ is) (b ∷ bs) p q w m o s =
    let on = follows_first p.started q.started i is o in
    let here : record_of b ≡ Ok i = cc in
    let others : map record_of bs ≡ map Ok is = cc in
    let front = w ∙ append_assoc (framed b) (flat_map framed bs) q.rest in
    unfolds p ∙ ap (after walked) (steps p b (flat_map framed bs ++ q.rest) i front on.0 here) ∙ ap (more i) (trail_read is bs _ q refl others on.1 s)

begins_read : (image : List ℕ) (items : List Item) (z : Bool) (tail : List ℕ) → Begins image items z tail → records image ≡ mores items (walked (record { rest = tail; size = length image; started = z }))
begins_read image items z tail h =
    ap from (begins image h.small (ap (λ l. get_or l 0 0) h.whole)) ∙ trail_read items h.bodies _ _ (ap (λ l. drop 1 l) h.whole) h.means h.order refl

faults : (p : Place) (b : Bool) (bs : List ℕ) (why : Reason) → Wrong b bs why → cond b (ended p bs) (unstarted p bs) ≡ fault p why
faults p true [] why w = absurd w
faults p true (c ∷ bs) why w = ap (fault p) (sym w)
faults p false [] why w = ap (fault p) (sym w)
faults p false (high ∷ []) why w = ap (fault p) (sym w)
faults p false (high ∷ low ∷ rest) why (inl w) = cond-false _ _ _ (lt-leb _ _ w.0) ∙ ap (fault p) (sym w.1)
faults p false (high ∷ low ∷ rest) why (inr w) = cond-true _ _ _ (le-leb _ _ w.0) ∙ ap (taken p (high * 256 + low) rest) w.1

complete_image : (image : List ℕ) (items : List Item) → Image image items → records image ≡ Ok items
complete_image image items h = begins_read image items true [] h ∙ ap (mores items) (unfolds (record { rest = []; size = length image; started = true })) ∙ mores_ok items

stops_image : (image : List ℕ) (x : Refusal) → Stops image x → records image ≡ Err x
stops_image image x h =
    let q : Place = record { rest = h.tail; size = length image; started = h.started } in
    let at : length image - length h.tail ≡ x.offset = omega (arith, h.place) in
    begins_read image h.items h.started h.tail h.front
    ∙ ap (mores h.items) (unfolds q ∙ ap (after walked) (faults q h.started h.tail x.reason h.wrong) ∙ ap (λ n. Err (record { reason = x.reason; offset = n })) at)
    ∙ mores_err h.items x

pub law : Law
law =
    record {
      unfolds = unfolds;
      sound = λ image items b e. sound-from image items (begin image) refl b e;
      complete = complete_image;
      refuses = λ image x b e. refuses-from image x (begin image) refl b e;
      stops = stops_image;
    }

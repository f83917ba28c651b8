-- Bits of bytes: which bytes they stand in.
use Rattle.std.proofs.Common.{◌≡◌, ◌≤◌, ◌<◌, ℕ, ◌+◌, ◌-◌, ◌*◌, ◌/◌, ◌%◌, ◌^◌, List, ◌++◌, length, take, drop, sym, ap, ◌∙◌, subst, arith, length-append}
use Rattle.std.proofs.Math.Nat.{mod-eq_of_lt}
use Rattle.std.proofs.lemmas.List.{take-append-drop, length-take-le, length-drop}
use Rattle.tc_bits.specs.Bits.{value, field_of, with_field, bits_after, bits_at, with_bits, IsAligned, IsWindow}
use Rattle.tc_bits.proofs.Fields.{field-after, field-before, with_field-after, with_field-before, with_field-fits}
use Rattle.tc_bits.proofs.Values.{AreBytes, AreBytes-take, AreBytes-drop, value-append, value-below}

-- bits in the front of bytes
pub bits_in_front : (w place : ℕ) (front back : List ℕ) → AreBytes back → place + w ≤ 8 * length front → bits_at w place (front ++ back) ≡ bits_at w place front
bits_in_front w place front back each room =
    let above : bits_after w place (front ++ back) ≡ 8 * length back + bits_after w place front = omega (arith, length-append front back) in
    ap (λ k. field_of k w (value (front ++ back))) above
    ∙ ap (field_of (8 * length back + bits_after w place front) w) (value-append front back)
    ∙ field-after (bits_after w place front) (8 * length back) w (value front) (value back) (value-below back each)

-- and after so many bytes
pub bits_after_bytes : (w place : ℕ) (front back : List ℕ) → place + w ≤ 8 * length back → bits_at w (8 * length front + place) (front ++ back) ≡ bits_at w place back
bits_after_bytes w place front back room =
    let above : bits_after w (8 * length front + place) (front ++ back) ≡ bits_after w place back = omega (arith, length-append front back) in
    let whole : 8 * length back ≡ place + w + bits_after w place back = omega arith in
    ap (λ k. field_of k w (value (front ++ back))) above
    ∙ ap (field_of (bits_after w place back) w) (value-append front back ∙ ap (λ k. value front * 2 ^ k + value back) whole)
    ∙ field-before (bits_after w place back) w place (value front) (value back)

-- bits written in the front, and after so many bytes
pub put_in_front : (w place v : ℕ) (front front' back : List ℕ) → AreBytes back → length front' ≡ length front → place + w ≤ 8 * length front
    → value front' ≡ with_bits w place v front → value (front' ++ back) ≡ with_bits w place v (front ++ back)
put_in_front w place v front front' back each same room put =
    let above : bits_after w place (front ++ back) ≡ 8 * length back + bits_after w place front = omega (arith, length-append front back) in
    value-append front' back
    ∙ ap (λ k. k * 2 ^ (8 * length back) + value back) put
    ∙ sym (with_field-after (bits_after w place front) (8 * length back) w v (value front) (value back) (value-below back each))
    ∙ ap (with_field (8 * length back + bits_after w place front) w v) (sym (value-append front back))
    ∙ ap (λ k. with_field k w v (value (front ++ back))) (sym above)

pub put_after : (w place v : ℕ) (front back back' : List ℕ) → length back' ≡ length back → place + w ≤ 8 * length back
    → value back' ≡ with_bits w place v back → value (front ++ back') ≡ with_bits w (8 * length front + place) v (front ++ back)
put_after w place v front back back' same room put =
    let above : bits_after w (8 * length front + place) (front ++ back) ≡ bits_after w place back = omega (arith, length-append front back) in
    let whole : 8 * length back ≡ place + (bits_after w place back + w) = omega arith in
    value-append front back'
    ∙ ap (λ k. value front * 2 ^ (8 * k) + value back') same
    ∙ ap (λ k. value front * 2 ^ (8 * length back) + k) put
    ∙ ap (λ k. value front * 2 ^ k + with_bits w place v back) whole
    ∙ sym (with_field-before (bits_after w place back) w place v (value front) (value back))
    ∙ ap (λ k. with_field (bits_after w place back) w v (value front * 2 ^ k + value back)) (sym whole)
    ∙ ap (with_field (bits_after w place back) w v) (sym (value-append front back))
    ∙ ap (λ k. with_field k w v (value (front ++ back))) (sym above)

-- the first eight bytes are enough for bits that stand in them
pub bits_in_window : (w place : ℕ) (bytes : List ℕ) → AreBytes bytes → 8 ≤ length bytes → place + w ≤ 64 → field_of (64 - place - w) w (value (take 8 bytes)) ≡ bits_at w place bytes
bits_in_window w place bytes each long room =
    let eight : length (take 8 bytes) ≡ 8 = length-take-le 8 bytes long in
    let above : 64 - place - w ≡ bits_after w place (take 8 bytes) = rw eight (omega arith) in
    ap (λ k. field_of k w (value (take 8 bytes))) above
    ∙ sym (bits_in_front w place (take 8 bytes) (drop 8 bytes) (AreBytes-drop 8 bytes each) (rw eight room))
    ∙ ap (bits_at w place) (take-append-drop 8 bytes)

-- and the bytes from the first one on that has any of them
pub bits_from : (w place : ℕ) (bytes : List ℕ) → place + w ≤ 8 * length bytes → bits_at w (place % 8) (drop (place / 8) bytes) ≡ bits_at w place bytes
bits_from w place bytes room =
    let start = place / 8 in
    let front : length (take start bytes) ≡ start = length-take-le start bytes (omega (arith, room)) in
    let at : 8 * length (take start bytes) + place % 8 ≡ place = rw front (omega arith) in
    sym (bits_after_bytes w (place % 8) (take start bytes) (drop start bytes) (rw (length-drop start bytes) (omega (arith, room))))
    ∙ ap (bits_at w (8 * length (take start bytes) + place % 8)) (take-append-drop start bytes)
    ∙ ap (λ k. bits_at w k bytes) at

-- bits that fill whole bytes are the number that these are
pub bytes_at_place : (w k place : ℕ) (bytes : List ℕ) → w ≡ 8 * k → AreBytes bytes → IsAligned w place → place + w ≤ 8 * length bytes → value (take k (drop (place / 8) bytes)) ≡ bits_at w place bytes
bytes_at_place w k place bytes same each aligned room =
    let start : place % 8 ≡ 0 = aligned (omega (arith, same)) in
    let back = drop (place / 8) bytes in
    let each_back = AreBytes-drop (place / 8) bytes each in
    let long : k ≤ length back = rw (length-drop (place / 8) bytes) (omega (arith, start, room, same)) in
    let some : length (take k back) ≡ k = length-take-le k back long in
    let nothing : bits_after w 0 (take k back) ≡ 0 = rw (some, same) (omega arith) in
    let below : value (take k back) < 2 ^ w = subst (λ n. value (take k back) < 2 ^ n) (ap (λ n. 8 * n) some ∙ sym same) (value-below (take k back) (AreBytes-take k back each_back)) in
    sym
    (sym (bits_from w place bytes room)
    ∙ ap (λ p. bits_at w p back) start
    ∙ ap (bits_at w 0) (sym (take-append-drop k back))
    ∙ bits_in_front w 0 (take k back) (drop k back) (AreBytes-drop k back each_back) (rw (some, same) (omega arith))
    ∙ ap (λ a. field_of a w (value (take k back))) nothing
    ∙ ap (λ n. n % 2 ^ w) (plain (value (take k back)))
    ∙ mod-eq_of_lt below)
  where
    plain : (n : ℕ) → n / 2 ^ 0 ≡ n
    plain n = omega arith

-- ---- written

pub put_in_window : (w place v n : ℕ) (bytes front' : List ℕ) → AreBytes bytes → n ≤ length bytes → length front' ≡ n → place + w ≤ 8 * n
    → value front' ≡ with_bits w place v (take n bytes) → value (front' ++ drop n bytes) ≡ with_bits w place v bytes
put_in_window w place v n bytes front' each long same room put =
    let some : length (take n bytes) ≡ n = length-take-le n bytes long in
    put_in_front w place v (take n bytes) front' (drop n bytes) (AreBytes-drop n bytes each) (same ∙ sym some) (rw some room) put
    ∙ ap (with_bits w place v) (take-append-drop n bytes)

pub put_from : (w place v : ℕ) (bytes back' : List ℕ) → place + w ≤ 8 * length bytes → length back' ≡ length bytes - place / 8
    → value back' ≡ with_bits w (place % 8) v (drop (place / 8) bytes) → value (take (place / 8) bytes ++ back') ≡ with_bits w place v bytes
put_from w place v bytes back' room same put =
    let start = place / 8 in
    let front : length (take start bytes) ≡ start = length-take-le start bytes (omega (arith, room)) in
    let at : 8 * length (take start bytes) + place % 8 ≡ place = rw front (omega arith) in
    put_after w (place % 8) v (take start bytes) (drop start bytes) back' (same ∙ sym (length-drop start bytes)) (rw (length-drop start bytes) (omega (arith, room))) put
    ∙ ap (with_bits w (8 * length (take start bytes) + place % 8) v) (take-append-drop start bytes)
    ∙ ap (λ k. with_bits w k v bytes) at

-- the number with its new bits is no longer than the bytes are
pub with_bits-fits : (w place v : ℕ) (bytes : List ℕ) → AreBytes bytes → v < 2 ^ w → place + w ≤ 8 * length bytes → with_bits w place v bytes % 2 ^ (8 * length bytes) ≡ with_bits w place v bytes
with_bits-fits w place v bytes each fits room =
    let whole : place + (bits_after w place bytes + w) ≡ 8 * length bytes = omega (arith, room) in
    mod-eq_of_lt
    (subst (λ k. with_bits w place v bytes < 2 ^ k) whole (with_field-fits (bits_after w place bytes) w place v (value bytes) fits (subst (λ k. value bytes < 2 ^ k) (sym whole) (value-below bytes each))))

-- all bits in the last eight of so many bytes
pub bits_in_look : (end : ℕ) (bytes : List ℕ) → AreBytes bytes → 8 ≤ end → end ≤ length bytes → IsWindow end (value (take 8 (drop (end - 8) bytes))) bytes
bits_in_look end bytes each long room w place near before =
    let start = end - 8 in
    let p = place - 8 * start in
    let front : length (take start bytes) ≡ start = length-take-le start bytes (omega (arith, room)) in
    let back : length (drop start bytes) ≡ length bytes - start = length-drop start bytes in
    let above : 8 * end - (place + w) ≡ 64 - p - w = omega (arith, long, near, before) in
    let at : 8 * length (take start bytes) + p ≡ place = rw front (omega (arith, long, near)) in
    ap (λ k. field_of k w (value (take 8 (drop start bytes)))) above
    ∙ bits_in_window w p (drop start bytes) (AreBytes-drop start bytes each) (rw back (omega (arith, room, long))) (omega (arith, long, before))
    ∙ sym (bits_after_bytes w p (take start bytes) (drop start bytes) (rw back (omega (arith, room, long, near, before))))
    ∙ ap (bits_at w (8 * length (take start bytes) + p)) (take-append-drop start bytes)
    ∙ ap (λ k. bits_at w k bytes) at

-- as those that end in the last of these bytes
pub bits_before : (w end : ℕ) (bytes : List ℕ) (number : ℕ) → w ≤ 32 → 64 ≤ end → IsWindow ((end + 7) / 8) number bytes → field_of (8 * ((end + 7) / 8) - end) w number ≡ bits_at w (end - w) bytes
bits_before w end bytes number most long seen =
    let whole = (end + 7) / 8 in
    let above : 8 * whole - end ≡ 8 * whole - (end - w + w) = omega (arith, most, long) in
    ap (λ k. field_of k w number) above
    ∙ seen w (end - w) (omega (arith, most, long)) (omega (arith, most, long))

mod ReadArrays

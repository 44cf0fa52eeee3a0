mod NearestPlaces
